-- Where the first byte is that passes a test.
use Rattle.gc_lines.proofs.Common.{◌≡◌, ℕ, Bool, List, length, Option, Some, None, refl, arith, position, position_or_len, false_from_ne_true, lt-ltb, le-ltb}
use Rattle.std.proofs.lemmas.List.Sums.{position_or_len_is}
use Rattle.memchr.specs.Find.{IsFirstByte}

-- if r is the first place at which the test holds, or none, as `IsFirstByte` has it, `position` gives r
pub first_position : (test : ℕ → Bool) (bytes : List ℕ) (r : Option ℕ) → IsFirstByte test bytes r → r ≡ position test bytes
first_position test bytes None h =
    let at : position_or_len test bytes ≡ length bytes = position_or_len_is test bytes (length bytes) 0 (omega arith)
    (λ k below. false_from_ne_true _ (h k (omega arith) below)) (λ below. absurd (omega arith)) in
    rw (at, le-ltb (length bytes) (length bytes) (omega arith)) refl
first_position test bytes (Some k) h =
    let at : position_or_len test bytes ≡ k = position_or_len_is test bytes k 0 (omega (arith, h.0.high)) (λ j below. false_from_ne_true _ (h.0.before j (omega arith) below)) (λ below. h.1) in
    rw (at, lt-ltb k (length bytes) h.0.high) refl
