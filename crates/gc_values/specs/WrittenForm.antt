-- The form of a written number. Of the texts that the GeoCOM manual's chapter on the ASCII protocol allows for a value
-- one is written, and which one is this project's own. `minus_where negative` is a minus where `negative` is true, else nothing.
use Rattle.std.specs.Prelude.{◌≡◌, ℕ, ◌<◌, ◌≤◌, Bool, true, List, [], ◌∷◌, ◌++◌, length}
use Rattle.gc_values.specs.Digits.{AreDigits, number}
pub use Rattle.std.specs.Fmt.{sign_text as minus_where}

-- these are one or more digits, and the first is no 0, unless it is the only one
pub record IsWholePart (digits : List ℕ) : Type 0 where
  pub are_digits : AreDigits digits
  pub some : 0 < length digits
  pub no_zero_in_front : (rest : List ℕ) → digits ≡ 48 ∷ rest → rest ≡ []

-- these are 1 to 24 digits, and the last is no 0, unless it is the only one
pub record IsFractionPart (digits : List ℕ) : Type 0 where
  pub are_digits : AreDigits digits
  pub some : 0 < length digits
  pub few : length digits ≤ 24
  pub no_zero_at_the_end : (front : List ℕ) → digits ≡ front ++ 48 ∷ [] → front ≡ []

-- the text has a whole number's form: a minus or nothing, and digits (`IsWholePart`); no minus is before zero
pub record HasWholeForm (text : List ℕ) : Type 0 where
  pub negative : Bool
  pub digits : List ℕ
  pub text_is : text ≡ minus_where negative ++ digits
  pub digits_are : IsWholePart digits
  pub no_minus_on_zero : negative ≡ true → 0 < number digits

-- the text has a decimal's form: a minus or nothing, digits (`IsWholePart`), a point and digits (`IsFractionPart`), and no
-- exponent; no minus is before zero
pub record HasDecimalForm (text : List ℕ) : Type 0 where
  pub negative : Bool
  pub whole : List ℕ
  pub fraction : List ℕ
  pub text_is : text ≡ minus_where negative ++ (whole ++ 46 ∷ fraction)
  pub whole_is : IsWholePart whole
  pub fraction_is : IsFractionPart fraction
  pub no_minus_on_zero : negative ≡ true → 0 < number (whole ++ fraction)
