-- A fraction has one rounding to p places, and how it is found: by the nearest whole number of units of 10^-p, without the zeros
-- at its end.
use Rattle.gc_values.proofs.Common.{◌≡◌, ℕ, zero, suc, ◌+◌, ◌-◌, ◌*◌, ◌%◌, ◌^◌, ◌<◌, ◌≤◌, Bool, true, false, ℤ, pos, negsuc, ◌*ℤ◌, ◌-ℤ◌, unsigned_abs, refl, sym, ap, ◌∙◌, subst, arith, mul-pos, mul-le-mul_right, le_of_mul-le-mul_right, lt_of_mul-lt-mul_left, eq_of_mul-eq-mul_left, mul-lt-mul_of_pos_left, ints, Fraction, SameValue, signed, distance, IsCanonical, IsRounded, SignedWithoutZeros, WithoutZeros, stripped, ten_pow_cut}
use Rattle.gc_values.proofs.Powers.{ten_pow_pos, ten_pow_le}
use Rattle.gc_values.proofs.Rounding.{gap, gap_comm, gap-mul, RoundsHalfUp, rounds_once, rounds_same_value}
use Rattle.gc_values.proofs.Signs.{scaled_distance_signed, unsigned_abs-signed}
pub use Rattle.gc_values.specs.RoundedFacts.{places_in_range, stripped_is}
pub use Rattle.gc_values.specs.DecimalOrder.{zeros_once}

-- m / 10^s has a form without the zeros at its end
pub has_form_without_zeros : (m s : ℕ) → (n : ℕ) × (t : ℕ) × WithoutZeros m s n t
has_form_without_zeros m s = ((stripped m s).digits, (stripped m s).places, stripped_is m s)

-- the distance of n / 10^s and a / 10^k, both with the same sign, is that of the magnitudes, multiplied out
distance_signed : (neg : Bool) (n s a k : ℕ) → distance (signed neg n) s (signed neg a) k ≡ gap (n * 10 ^ k) (a * 10 ^ s)
distance_signed false n s a k = scaled_distance_signed false n (10 ^ k) false a (10 ^ s)
distance_signed true n s a k = scaled_distance_signed true n (10 ^ k) true a (10 ^ s)

-- if n / 10^s and m / 10^p are one value, the distance of a / 10^k from the one is its distance from the other, multiplied out
gap_at_other_scale : (a k p m n s : ℕ) → m * 10 ^ s ≡ n * 10 ^ p → gap (n * 10 ^ k) (a * 10 ^ s) * 10 ^ p ≡ gap (a * 10 ^ p) (m * 10 ^ k) * 10 ^ s
gap_at_other_scale a k p m n s same =
    let left : n * 10 ^ k * 10 ^ p ≡ m * 10 ^ k * 10 ^ s = omega (arith, ap (λ x. x * 10 ^ k) same) in
    let right : a * 10 ^ s * 10 ^ p ≡ a * 10 ^ p * 10 ^ s = omega arith in
    sym (gap-mul (n * 10 ^ k) (a * 10 ^ s) (10 ^ p)) ∙ ap (λ x. gap x (a * 10 ^ s * 10 ^ p)) left ∙ ap (gap (m * 10 ^ k * 10 ^ s)) right
    ∙ gap_comm (m * 10 ^ k * 10 ^ s) (a * 10 ^ p * 10 ^ s) ∙ gap-mul (a * 10 ^ p) (m * 10 ^ k) (10 ^ s)

-- if m is the whole number of units of 10^-p that is nearest to a / 10^k, m / 10^p without the zeros at its end is a / 10^k
-- rounded to p places, with either sign
pub rounded_from : (neg : Bool) (a k p m n s : ℕ) → RoundsHalfUp (a * 10 ^ p) (10 ^ k) m → WithoutZeros m p n s
    → IsRounded (record { n = signed neg a; k = k }) p (signed neg n) s
rounded_from neg a k p m n s r w =
    let far = distance_signed neg n s a k in
    let move = gap_at_other_scale a k p m n s w.same in
    record {
      canonical = λ some h. w.canonical some (ap (λ x. x % 10) (sym (unsigned_abs-signed neg n)) ∙ h);
      places = w.fewer;
      near = omega (arith, ap (λ x. x * 10 ^ p) far, move, mul-le-mul_right {m = 2 * gap (a * 10 ^ p) (m * 10 ^ k)} {n = 10 ^ k} (10 ^ s) r.near);
      tie = λ h.
          let half : 2 * gap (a * 10 ^ p) (m * 10 ^ k) ≡ 10 ^ k =
          eq_of_mul-eq-mul_left (10 ^ s) (ten_pow_pos s) _ _ (omega (arith, h, ap (λ x. x * 10 ^ p) far, move)) in
          let less : a * 10 ^ s < n * 10 ^ k =
          lt_of_mul-lt-mul_left (10 ^ p) (omega (arith, ap (λ x. x * 10 ^ k) w.same, mul-lt-mul_of_pos_left {m = a * 10 ^ p} {n = m * 10 ^ k} {k = 10 ^ s} (r.tie half) (ten_pow_pos s))) in
          omega (arith, less, ap (λ x. x * 10 ^ s) (unsigned_abs-signed neg a), ap (λ x. x * 10 ^ k) (unsigned_abs-signed neg n));
    }

-- if s is at most p, the sum of (x + 1) / 10^s and a / 10^k is more than half of 10^-p: a number of the other sign is too far
-- away to be the rounding
far_apart : (x k p a s : ℕ) → s ≤ p → 2 * ((suc x) * 10 ^ k + a * 10 ^ s) * 10 ^ p ≤ 10 ^ s * 10 ^ k → ⊥
far_apart x k p a s places near =
    let wide : 10 ^ s * 10 ^ k ≤ 10 ^ p * 10 ^ k = mul-le-mul_right {m = 10 ^ s} {n = 10 ^ p} (10 ^ k) (ten_pow_le s p places) in
    let some : 0 < 10 ^ p * 10 ^ k = mul-pos (ten_pow_pos p) (ten_pow_pos k) in
    omega arith

-- the digits of a rounding are a magnitude with the sign of the fraction
pub keeps_sign : (neg : Bool) (a k p : ℕ) (m : ℤ) (s : ℕ) → IsRounded (record { n = signed neg a; k = k }) p m s → (n : ℕ) × (m ≡ signed neg n)
keeps_sign false a k p (pos n) s r = (n, refl)
keeps_sign false a k p (negsuc x) s r = absurd (far_apart x k p a s r.places (subst (λ d. 2 * d * 10 ^ p ≤ 10 ^ s * 10 ^ k) (scaled_distance_signed true (suc x) (10 ^ k) false a (10 ^ s)) r.near))
keeps_sign true a k p (negsuc x) s r = (suc x, refl)
keeps_sign true a k p (pos zero) s r = (0, refl)
keeps_sign true a k p (pos (suc x)) s r = absurd (far_apart x k p a s r.places (subst (λ d. 2 * d * 10 ^ p ≤ 10 ^ s * 10 ^ k) (scaled_distance_signed false (suc x) (10 ^ k) true a (10 ^ s)) r.near))

-- u is the whole number of units of 10^-p that is nearest to a / 10^k, and m / 10^s is made of u / 10^p and the sign, as
-- `SignedWithoutZeros` has it
pub record IsNearestUnits (neg : Bool) (a k p : ℕ) (m : ℤ) (s : ℕ) : Type 0 where
  pub u : ℕ
  pub made : SignedWithoutZeros neg u p m s
  pub rounds : RoundsHalfUp (a * 10 ^ p) (10 ^ k) u

-- each rounding to p places that has the sign of its fraction is the nearest whole number of units, as `IsNearestUnits` has it
signed_is_nearest_units : (neg : Bool) (a k p n s : ℕ) → IsRounded (record { n = signed neg a; k = k }) p (signed neg n) s
    → IsNearestUnits neg a k p (signed neg n) s
signed_is_nearest_units neg a k p n s r =
    let u : ℕ = n * 10 ^ (p - s) in
    let places : s ≤ p = r.places in
    let same : u * 10 ^ s ≡ n * 10 ^ p = omega (arith, ap (λ x. n * x) (ten_pow_cut s p places)) in
    let far = distance_signed neg n s a k in
    let move = gap_at_other_scale a k p u n s same in
    record {
      u = u;
      made = record {
        n = n;
        m_is = refl;
        zeros = record { same = same; fewer = places; canonical = λ some h. r.canonical some (ap (λ x. x % 10) (unsigned_abs-signed neg n) ∙ h) };
      };
      rounds = record {
        near = le_of_mul-le-mul_right {m = 2 * gap (a * 10 ^ p) (u * 10 ^ k)} {n = 10 ^ k} {k = 10 ^ s} (let near = r.near in omega (arith, near, ap (λ x. x * 10 ^ p) far, move)) (ten_pow_pos s);
        tie = λ h.
            let half : 2 * distance (signed neg n) s (signed neg a) k * 10 ^ p ≡ 10 ^ s * 10 ^ k = omega (arith, ap (λ x. x * 10 ^ s) h, ap (λ x. x * 10 ^ p) far, move) in
            let less = r.tie half in
            let less' : a * 10 ^ s < n * 10 ^ k = omega (arith, less, ap (λ x. x * 10 ^ s) (unsigned_abs-signed neg a), ap (λ x. x * 10 ^ k) (unsigned_abs-signed neg n)) in
            lt_of_mul-lt-mul_left (10 ^ s) (omega (arith, ap (λ x. x * 10 ^ k) same, mul-lt-mul_of_pos_left {m = a * 10 ^ s} {n = n * 10 ^ k} {k = 10 ^ p} less' (ten_pow_pos p)));
      };
    }

-- each rounding to p places is the nearest whole number of units, with the sign of its fraction, as `IsNearestUnits` has it
pub rounding_is_nearest_units : (neg : Bool) (a k p : ℕ) (m : ℤ) (s : ℕ) → IsRounded (record { n = signed neg a; k = k }) p m s
    → IsNearestUnits neg a k p m s
rounding_is_nearest_units neg a k p m s r =
    let sign = keeps_sign neg a k p m s r in
    let there : IsRounded (record { n = signed neg a; k = k }) p (signed neg sign.0) s = subst (λ z. IsRounded (record { n = signed neg a; k = k }) p z s) sign.1 r in
    subst (λ z. IsNearestUnits neg a k p z s) (sym sign.1) (signed_is_nearest_units neg a k p sign.0 s there)

-- a fraction that is given by its sign and its magnitude rounds to at most one m / 10^s
pub rounded_once : (neg : Bool) (a k p : ℕ) (m : ℤ) (s : ℕ) (n : ℤ) (t : ℕ) → IsRounded (record { n = signed neg a; k = k }) p m s
    → IsRounded (record { n = signed neg a; k = k }) p n t → (m ≡ n) × (s ≡ t)
rounded_once neg a k p m s n t r q =
    let x = rounding_is_nearest_units neg a k p m s r in
    let y = rounding_is_nearest_units neg a k p n t q in
    let same : x.u ≡ y.u = rounds_once (a * 10 ^ p) (10 ^ k) x.u y.u (ten_pow_pos k) x.rounds y.rounds in
    let one = zeros_once x.u p x.made.n s y.made.n t x.made.zeros (subst (λ u. WithoutZeros u p y.made.n t) (sym same) y.made.zeros) in
    (x.made.m_is ∙ ap (signed neg) one.0 ∙ sym y.made.m_is, one.1)

-- each whole number is a magnitude with a sign
pub has_sign : (z : ℤ) → (neg : Bool) × (a : ℕ) × (z ≡ signed neg a)
has_sign (pos n) = (false, n, refl)
has_sign (negsuc n) = (true, suc n, refl)

-- a fraction rounds to at most one m / 10^s: two that it rounds to have the same digits and places
pub rounds_to_one : (q : Fraction) (p : ℕ) (m : ℤ) (s : ℕ) (n : ℤ) (t : ℕ) → IsRounded q p m s → IsRounded q p n t → (m ≡ n) × (s ≡ t)
rounds_to_one q p m s n t r r' =
    let z = has_sign q.n in
    let same : q ≡ record { n = signed z.0 z.1; k = q.k } = ap (λ (x : ℤ). let f : Fraction = record { n = x; k = q.k } in f) z.2 in
    rounded_once z.0 z.1 q.k p m s n t (subst (λ f. IsRounded f p m s) same r) (subst (λ f. IsRounded f p n t) same r')

-- a number is 0 away from itself
no_distance : (x : ℤ) → unsigned_abs (x -ℤ x) ≡ 0
no_distance x = omega (arith, ints)

-- twice 0 times anything is 0
twice_zero : (x : ℕ) → 2 * 0 * x ≡ 0
twice_zero x = omega arith

-- if m / 10^s has the value of q, needs all its places and has at most p, it is q rounded to p places
pub exact_rounds : (q : Fraction) (p : ℕ) (m : ℤ) (s : ℕ) → IsCanonical m s → s ≤ p → SameValue m s q.n q.k → IsRounded q p m s
exact_rounds q p m s canonical places same =
    let near : distance m s q.n q.k ≡ 0 = ap (λ x. unsigned_abs (x -ℤ q.n *ℤ pos (10 ^ s))) same ∙ no_distance (q.n *ℤ pos (10 ^ s)) in
    let none : 2 * distance m s q.n q.k * 10 ^ p ≡ 0 = ap (λ d. 2 * d * 10 ^ p) near ∙ twice_zero (10 ^ p) in
    let some : 0 < 10 ^ s * 10 ^ q.k = mul-pos (ten_pow_pos s) (ten_pow_pos q.k) in
    record {
      canonical = canonical;
      places = places;
      near = subst (λ x. x ≤ 10 ^ s * 10 ^ q.k) (sym none) (omega arith);
      tie = λ h. let e : 0 ≡ 10 ^ s * 10 ^ q.k = sym none ∙ h in absurd (omega (arith, e, some));
    }

-- for p at most s: where a over 10^(s - p) rounds to m, so does a * 10^p over 10^s, which is a / 10^s in units of 10^-p
pub rounds_places : (a s p m : ℕ) → p ≤ s → RoundsHalfUp a (10 ^ (s - p)) m → RoundsHalfUp (a * 10 ^ p) (10 ^ s) m
rounds_places a s p m places r =
    let same : a * 10 ^ s ≡ a * 10 ^ p * 10 ^ (s - p) = omega (arith, ap (λ x. a * x) (ten_pow_cut p s places)) in
    rounds_same_value a (10 ^ (s - p)) (a * 10 ^ p) (10 ^ s) m (ten_pow_pos (s - p)) (ten_pow_pos s) same r

-- a value in range with at most 24 places has at most 10^37 units of 10^-24
pub units_in_range : (a s : ℕ) → s ≤ 24 → a ≤ 10 ^ 13 * 10 ^ s → a * 10 ^ (24 - s) ≤ 10 ^ 37
units_in_range a s places h =
    omega (arith, ten_pow_cut s 24 places, mul-le-mul_right {m = a} {n = 10 ^ 13 * 10 ^ s} (10 ^ (24 - s)) h)
