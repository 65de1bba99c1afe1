-- How long the parameters of a line that is written are at most.
use Rattle.gc_catalogue.proofs.Common.{◌*◌, ◌∷◌, arith, length-append, lit≤, text_is_short, text, AreValues, Value, behind_commas}
use Rattle.std.specs.Prelude.{◌≤◌, List, [], length}

-- the texts of values in range, each after a comma, have at most 67 bytes for each value
pub behind_short : (vs : List Value) → AreValues vs → length (behind_commas vs) ≤ 67 * length vs
behind_short [] h = lit≤ tt
behind_short (v ∷ vs) h = omega (arith, length-append (44 ∷ text v) (behind_commas vs), text_is_short v h.0, behind_short vs h.1)
