-- Numbers that are given as a sign, where `true` is a minus, and a magnitude, and how far they are apart.
use Rattle.gc_values.proofs.Common.{◌≡◌, ℕ, zero, suc, ◌+◌, ◌*◌, Bool, true, false, ℤ, pos, ◌*ℤ◌, ◌-ℤ◌, unsigned_abs, refl, ap, ◌∙◌, arith, pos-*ℤ-pos, negsuc-*ℤ-pos, ints, signed}
use Rattle.gc_values.proofs.Rounding.{gap, gap-mul}
pub use Rattle.gc_values.specs.RoundedFacts.{unsigned_abs-signed}

-- a multiple of a number with a sign has the sign
pub signed-mul : (b : Bool) (m n : ℕ) → signed b m *ℤ pos n ≡ signed b (m * n)
signed-mul false m n = pos-*ℤ-pos m n
signed-mul true zero n = let e : 0 * n ≡ 0 = omega arith in rw e refl
signed-mul true (suc m) n = negsuc-*ℤ-pos m n

-- a number z that is made of a sign and a magnitude has that magnitude
pub abs_from : (z : ℤ) (b : Bool) (m : ℕ) → z ≡ signed b m → unsigned_abs z ≡ m
abs_from z b m e = ap unsigned_abs e ∙ unsigned_abs-signed b m

-- how far the number of sign b and magnitude m is from the one of sign c and magnitude n, where `true` is a minus
abbrev pub signed_distance : (b : Bool) (m : ℕ) (c : Bool) (n : ℕ) → ℕ
signed_distance false m false n = gap m n
signed_distance false m true n = m + n
signed_distance true m false n = m + n
signed_distance true m true n = gap m n

-- two numbers that are both multiplied by k are k times as far apart
pub signed_distance-mul : (b : Bool) (m : ℕ) (c : Bool) (n k : ℕ) → signed_distance b (m * k) c (n * k) ≡ signed_distance b m c n * k
signed_distance-mul false m false n k = gap-mul m n k
signed_distance-mul false m true n k = omega arith
signed_distance-mul true m false n k = omega arith
signed_distance-mul true m true n k = gap-mul m n k

-- the distance of two numbers with signs is their `signed_distance`
abs_is_signed_distance : (b : Bool) (m : ℕ) (c : Bool) (n : ℕ) → unsigned_abs (signed b m -ℤ signed c n) ≡ signed_distance b m c n
abs_is_signed_distance false m false n = omega (arith, ints)
abs_is_signed_distance false m true n = omega (arith, ints)
abs_is_signed_distance true m false n = omega (arith, ints)
abs_is_signed_distance true m true n = omega (arith, ints)

-- how far z * k and w * l are apart
abbrev pub scaled_distance : (z : ℤ) (k : ℕ) (w : ℤ) (l : ℕ) → ℕ
scaled_distance z k w l = unsigned_abs (z *ℤ pos k -ℤ w *ℤ pos l)

-- multiples of numbers with signs are as far apart as the `signed_distance` of the products
pub scaled_distance_signed : (b : Bool) (m k : ℕ) (c : Bool) (n l : ℕ)
    → scaled_distance (signed b m) k (signed c n) l ≡ signed_distance b (m * k) c (n * l)
scaled_distance_signed b m k c n l =
    ap (λ x. unsigned_abs (x -ℤ signed c n *ℤ pos l)) (signed-mul b m k)
    ∙ ap (λ x. unsigned_abs (signed b (m * k) -ℤ x)) (signed-mul c n l)
    ∙ abs_is_signed_distance b (m * k) c (n * l)
