-- Whether two values are at most an area apart, in two forms that say the same. In units of 1 / p, where p is 10^24, as the code
-- compares them: a distance of x units and an area of n * c' units. And multiplied out, as the definition has it: a distance of y
-- over ab and an area of n over c, where ab and c are powers of ten.
use Rattle.gc_values.proofs.Common.{◌≡◌, ℕ, ◌-◌, ◌*◌, ◌^◌, ◌<◌, ◌≤◌, ◌↔◌, IsTrue, Bool, ℤ, pos, negsuc, neg_ℤ, ◌*ℤ◌, ◌-ℤ◌, ◌≤ℤ◌, suc, int_le, unsigned_abs, sym, ap, ◌∙◌, subst, arith, pos-*ℤ-pos, negsuc-*ℤ-pos, mul-pos, mul-le-mul_right, le_of_mul-le-mul_right, true_from_ne_false, ints, both_ways, fraction, units, is_within, signed, distance, IsWithin, ten_pow_cut, Decimal}
use Rattle.gc_values.proofs.Powers.{ten_pow_pos}
use Rattle.gc_values.proofs.Rounded.{has_sign}
use Rattle.gc_values.proofs.Signs.{signed_distance, signed_distance-mul, scaled_distance, scaled_distance_signed}

-- if k and l are both multiplied by p, the two products are p times as far apart; the numbers are given as signs and
-- magnitudes
scaled_distance-mul_signed : (b : Bool) (m k : ℕ) (c : Bool) (n l p : ℕ)
    → scaled_distance (signed b m) k (signed c n) l * p ≡ scaled_distance (signed b m) (k * p) (signed c n) (l * p)
scaled_distance-mul_signed b m k c n l p =
    let left : m * k * p ≡ m * (k * p) = omega arith in
    let right : n * l * p ≡ n * (l * p) = omega arith in
    ap (λ x. x * p) (scaled_distance_signed b m k c n l) ∙ sym (signed_distance-mul b (m * k) c (n * l) p)
    ∙ ap (λ x. signed_distance b x c (n * l * p)) left ∙ ap (signed_distance b (m * (k * p)) c) right ∙ sym (scaled_distance_signed b m (k * p) c n (l * p))

-- if k and l are both multiplied by p, z * k and w * l are p times as far apart
scaled_distance-mul : (z : ℤ) (k : ℕ) (w : ℤ) (l p : ℕ) → scaled_distance z k w l * p ≡ scaled_distance z (k * p) w (l * p)
scaled_distance-mul z k w l p =
    let x = has_sign z in
    let y = has_sign w in
    subst (λ z. scaled_distance z k w l * p ≡ scaled_distance z (k * p) w (l * p)) (sym x.2)
    (subst (λ w. scaled_distance (signed x.0 x.1) k w l * p ≡ scaled_distance (signed x.0 x.1) (k * p) w (l * p)) (sym y.2) (scaled_distance-mul_signed x.0 x.1 k y.0 y.1 l p))

-- if a * a' and b * b' are both p: how far z * a' and w * b' are apart, times a * b, is how far z * b and w * a are apart,
-- times p
distance_in_units : (z : ℤ) (a a' : ℕ) (w : ℤ) (b b' p : ℕ) → a * a' ≡ p → b * b' ≡ p → scaled_distance z a' w b' * (a * b) ≡ scaled_distance z b w a * p
distance_in_units z a a' w b b' p e f =
    let left : a' * (a * b) ≡ b * p = omega (arith, ap (λ x. x * b) e) in
    let right : b' * (a * b) ≡ a * p = omega (arith, ap (λ x. x * a) f) in
    scaled_distance-mul z a' w b' (a * b) ∙ ap (λ x. scaled_distance z x w (b' * (a * b))) left ∙ ap (λ x. scaled_distance z (b * p) w x) right ∙ sym (scaled_distance-mul z b w a p)

-- for k above 0, no number from 0 on is at most a number below 0 times k
not_within_negative : (x n k : ℕ) → 0 < k → pos x ≤ℤ (negsuc n *ℤ pos k) → ⊥
not_within_negative x n k some h =
    let there : pos x ≤ℤ neg_ℤ (pos (suc n * k)) = subst (λ z. pos x ≤ℤ z) (negsuc-*ℤ-pos n k) h in
    omega (arith, ints, there)

-- natural numbers in order are in order as integers
pos_le : (x y : ℕ) → x ≤ y → pos x ≤ℤ pos y
pos_le x y h = omega (arith, ints)

-- integers from 0 on in order are in order as natural numbers
le_pos : (x y : ℕ) → pos x ≤ℤ pos y → x ≤ y
le_pos x y h = omega (arith, ints, h)

-- a distance is y over ab, which is x units of 1 / p, and an area is a number over c, which has c' units for each 1 / c
module _ (x y ab c c' p : ℕ) (e : x * ab ≡ y * p) (f : c * c' ≡ p) where
  -- if the distance is at most the area n / c, both in units, it is at most the area multiplied out, too
  within_multiplied : (n : ℕ) → 0 < p → x ≤ n * c' → y * c ≤ n * ab
  within_multiplied n some h =
      le_of_mul-le-mul_right {m = y * c} {n = n * ab} {k = p}
      (omega (arith, ap (λ u. u * c) e, ap (λ u. u * (n * ab)) f, mul-le-mul_right {m = x} {n = n * c'} (ab * c) h)) some

  -- if the distance is at most the area n / c, both multiplied out, it is at most the area in units, too
  within_in_units : (n : ℕ) → 0 < ab * c → y * c ≤ n * ab → x ≤ n * c'
  within_in_units n some h =
      le_of_mul-le-mul_right {m = x} {n = n * c'} {k = ab * c}
      (omega (arith, ap (λ u. u * c) e, ap (λ u. u * (n * ab)) f, mul-le-mul_right {m = y * c} {n = n * ab} p h)) some

  -- if the area is z / c, and may be below zero, the distance is at most the area in units exactly where it is multiplied out
  within_scaled : (z : ℤ) → (p_pos : 0 < p) → (c'_pos : 0 < c') → (abc_pos : 0 < ab * c) → (ab_pos : 0 < ab)
      → (pos x ≤ℤ (z *ℤ pos c')) ↔ (pos (y * c) ≤ℤ (z *ℤ pos ab))
  within_scaled (pos n) p_pos c'_pos abc_pos ab_pos = (
    λ h. subst (λ w. pos (y * c) ≤ℤ w) (sym (pos-*ℤ-pos n ab)) (pos_le (y * c) (n * ab) (within_multiplied n p_pos (le_pos x (n * c') (subst (λ w. pos x ≤ℤ w) (pos-*ℤ-pos n c') h)))),
    λ h. subst (λ w. pos x ≤ℤ w) (sym (pos-*ℤ-pos n c')) (pos_le x (n * c') (within_in_units n abc_pos (le_pos (y * c) (n * ab) (subst (λ w. pos (y * c) ≤ℤ w) (pos-*ℤ-pos n ab) h)))),
  )
  within_scaled (negsuc n) p_pos c'_pos abc_pos ab_pos = (λ h. absurd (not_within_negative x n c' c'_pos h), λ h. absurd (not_within_negative (y * c) n ab ab_pos h))

-- two values are at most the area apart in units of 10^-24 exactly where their fractions are
pub within_units : (a b area : Decimal) → (pos (unsigned_abs (units a -ℤ units b)) ≤ℤ units area) ↔ IsWithin (fraction a) (fraction b) (fraction area)
within_units a b area =
    let both : 0 < 10 ^ a.scale * 10 ^ b.scale = mul-pos (ten_pow_pos a.scale) (ten_pow_pos b.scale) in
    within_scaled (scaled_distance a.digits (10 ^ (24 - a.scale)) b.digits (10 ^ (24 - b.scale))) (distance a.digits a.scale b.digits b.scale)
    (10 ^ a.scale * 10 ^ b.scale) (10 ^ area.scale) (10 ^ (24 - area.scale)) (10 ^ 24)
    (distance_in_units a.digits (10 ^ a.scale) (10 ^ (24 - a.scale)) b.digits (10 ^ b.scale) (10 ^ (24 - b.scale)) (10 ^ 24)
    (ten_pow_cut a.scale 24 a.has_few_places) (ten_pow_cut b.scale 24 b.has_few_places))
    (ten_pow_cut area.scale 24 area.has_few_places) area.digits
    (ten_pow_pos 24) (ten_pow_pos (24 - area.scale)) (mul-pos both (ten_pow_pos area.scale)) both

-- the test of an order of whole numbers holds exactly where they are in order
pub int_le_exactly : (x y : ℤ) → IsTrue (int_le x y) ↔ (x ≤ℤ y)
int_le_exactly x y = (λ h. omega (arith, ints, h), λ h. true_from_ne_false (int_le x y) (λ e. omega (arith, ints, h, e)))

-- `is_within` holds exactly where the values are at most the area apart
pub is_within_exactly : (a b area : Decimal) → IsTrue (is_within a b area) ↔ IsWithin (fraction a) (fraction b) (fraction area)
unfolding is_within
is_within_exactly a b area = int_le_exactly (pos (distance a.digits a.scale b.digits b.scale * 10 ^ area.scale)) (area.digits *ℤ pos (10 ^ a.scale * 10 ^ b.scale))

-- the comparison that the code makes holds exactly where the values are at most the area apart
pub comparison_is_within : (a b area : Decimal) (x y : ℤ) → x ≡ pos (unsigned_abs (units a -ℤ units b)) → y ≡ units area
    → IsTrue (int_le x y) ↔ IsWithin (fraction a) (fraction b) (fraction area)
comparison_is_within a b area x y e f =
    let w = within_units a b area in
    let t = int_le_exactly x y in (
      λ h. w.0 (subst (λ z. z ≤ℤ units area) e (subst (λ z. x ≤ℤ z) f (t.0 h))),
      λ h. t.1 (subst (λ z. x ≤ℤ z) (sym f) (subst (λ z. z ≤ℤ units area) (sym e) (w.1 h))),
    )

-- the comparison that the code makes is `is_within`
pub compared_exact : (a b area : Decimal) (x y : ℤ) → x ≡ pos (unsigned_abs (units a -ℤ units b)) → y ≡ units area → int_le x y ≡ is_within a b area
compared_exact a b area x y e f =
    let c = comparison_is_within a b area x y e f in
    let t = is_within_exactly a b area in
    both_ways (int_le x y) (is_within a b area) (λ h. t.1 (c.0 h)) (λ h. c.1 (t.0 h))

-- two numbers of at most 10^37, either way from 0, are at most 2 * 10^37 apart
pub apart_fits : (x y : ℤ) → unsigned_abs x ≤ 10 ^ 37 → unsigned_abs y ≤ 10 ^ 37 → unsigned_abs (x -ℤ y) ≤ 2 * 10 ^ 37
apart_fits x y h k = omega (arith, ints)
