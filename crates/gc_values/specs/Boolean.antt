-- Booleans: 0 and 1, as in the GeoCOM manual's chapter on the ASCII protocol. That signs and leading zeros are read is this
-- project's own. `number_of` is 0 for false and 1 for true.
use Rattle.std.specs.Prelude.{ℕ, Bool, true, false, List, [], ◌∷◌, pos}
use Rattle.gc_values.specs.Whole.{NamesWhole}
pub use Rattle.std.specs.Int.{from_bool as number_of}

-- the text writes, as a whole number, 0 for false or 1 for true
abbrev pub NamesBoolean : List ℕ → Bool → Type 0
NamesBoolean text b = NamesWhole text (pos (number_of b))

-- a truth value, written: `0` or `1`
abbrev pub boolean_text : Bool → List ℕ
boolean_text false = 48 ∷ []
boolean_text true = 49 ∷ []
