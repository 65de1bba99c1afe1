-- For the definition of `of_units`: the facts that a decimal contains, of the one whose value is m units of 10^-24.
use Rattle.gc_scenes.specs.Common.{signed, IsInRange, IsCanonical, stripped_is, zeros_in_range, unsigned_abs-signed, stripped}
use Rattle.std.proofs.Common.{◌≡◌, ℕ, ◌*◌, ◌%◌, ◌^◌, ◌≤◌, Bool, true, nat_le, sym, ap, ◌∙◌, subst}
use borrow.Author.Tests.{leb-true}

-- the decimal of m units (`stripped`) has at most 24 places
pub stripped_has_few_places : (m : ℕ) → (stripped m 24).places ≤ 24
stripped_has_few_places m = (stripped_is m 24).fewer

-- the decimal of at most 10^37 units (`stripped`), with either sign, is in range
pub stripped_is_in_range : (b : Bool) (m : ℕ) → nat_le m (10 ^ 13 * 10 ^ 24) ≡ true → IsInRange (signed b (stripped m 24).digits) (stripped m 24).places
stripped_is_in_range b m h =
    subst (λ n. n ≤ 10 ^ 13 * 10 ^ (stripped m 24).places) (sym (unsigned_abs-signed b (stripped m 24).digits))
    (zeros_in_range m 24 (stripped m 24).digits (stripped m 24).places (stripped_is m 24) (leb-true m (10 ^ 13 * 10 ^ 24) h))

-- the decimal of m units (`stripped`), with either sign, has no more places than it needs
pub stripped_is_canonical : (b : Bool) (m : ℕ) → IsCanonical (signed b (stripped m 24).digits) (stripped m 24).places
stripped_is_canonical b m some divides = (stripped_is m 24).canonical some (ap (λ n. n % 10) (sym (unsigned_abs-signed b (stripped m 24).digits)) ∙ divides)
