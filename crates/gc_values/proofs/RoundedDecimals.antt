-- `rounded` and `rounded_to` give the rounding of a decimal.
use Rattle.gc_values.proofs.Common.{◌≡◌, ℕ, ◌-◌, ◌*◌, ◌^◌, ◌<◌, ◌≤◌, Bool, min, ℤ, pos, negsuc, unsigned_abs, refl, sym, ap, ◌∙◌, subst, inl, inr, arith, cases_lt, fraction, rounded, signed, is_negative, IsRounded, half_up, rounded_to, half_up_rounds, rounded_canonical, rounded_to_is, ten_pow_pos, WithoutZeros, Decimal}
use Rattle.gc_values.proofs.DecimalLemmas.{same_decimal}
use Rattle.gc_values.proofs.Rounded.{exact_rounds, rounded_from, rounds_places, rounds_to_one}
use Rattle.gc_values.proofs.Signs.{signed-mul}

-- a whole number over 1 rounds to itself
half_up-one : (m : ℕ) → half_up m 1 ≡ m
half_up-one m = omega arith

-- what `rounded_to` gives, with the sign b, is m / 10^s with that sign, rounded to p places
abbrev pub RoundsWithSign : (b : Bool) (m s p : ℕ) → Type 0
RoundsWithSign b m s p = IsRounded (record { n = signed b m; k = s }) p (signed b (rounded_to m s p).digits) (rounded_to m s p).places

-- if p is s or more, `RoundsWithSign` is true
rounded_at_enough_places : (b : Bool) (m s p : ℕ) → s ≤ p → RoundsWithSign b m s p
rounded_at_enough_places b m s p h =
    let r = rounded_to m s p in
    let zeros = rounded_to_is m s p in
    let none : s - p ≡ 0 = omega arith in
    let own : min s p ≡ s = omega arith in
    let whole : half_up m (10 ^ (s - p)) ≡ m = ap (λ e. half_up m (10 ^ e)) none ∙ half_up-one m in
    let same : r.digits * 10 ^ s ≡ m * 10 ^ r.places = ap (λ e. r.digits * 10 ^ e) (sym own) ∙ sym zeros.same ∙ ap (λ n. n * 10 ^ r.places) whole in
    exact_rounds (record { n = signed b m; k = s }) p (signed b r.digits) r.places (rounded_canonical b m s p) (let f = zeros.fewer in omega (arith, f))
    (signed-mul b r.digits (10 ^ s) ∙ ap (signed b) same ∙ sym (signed-mul b m (10 ^ r.places)))

-- if p is less than s, `RoundsWithSign` is true
rounded_at_fewer_places : (b : Bool) (m s p : ℕ) → p < s → RoundsWithSign b m s p
rounded_at_fewer_places b m s p h =
    let r = rounded_to m s p in
    let few : min s p ≡ p = omega arith in
    let zeros : WithoutZeros (half_up m (10 ^ (s - p))) p r.digits r.places = subst (λ e. WithoutZeros (half_up m (10 ^ (s - p))) e r.digits r.places) few (rounded_to_is m s p) in
    rounded_from b m s p (half_up m (10 ^ (s - p))) r.digits r.places
    (rounds_places m s p (half_up m (10 ^ (s - p))) (omega arith) (half_up_rounds m (10 ^ (s - p)) (ten_pow_pos (s - p)))) zeros

-- what `rounded_to` gives, with a sign, is m / 10^s with that sign, rounded to p places
pub rounded_to_rounds : (b : Bool) (m s p : ℕ) → RoundsWithSign b m s p
rounded_to_rounds b m s p = elim (cases_lt p s) [ inl fewer ↦ rounded_at_fewer_places b m s p fewer | inr own ↦ rounded_at_enough_places b m s p own ]

-- a number is its magnitude with its sign
pub signed-unsigned_abs : (z : ℤ) → signed (is_negative z) (unsigned_abs z) ≡ z
signed-unsigned_abs (pos n) = refl
signed-unsigned_abs (negsuc n) = refl

-- `rounded d p` is the decimal d rounded to p places
pub rounded_rounds : (d : Decimal) (p : ℕ) → IsRounded (fraction d) p (rounded d p).digits (rounded d p).scale
unfolding rounded
rounded_rounds d p =
    subst (λ z. IsRounded (record { n = z; k = d.scale }) p (rounded d p).digits (rounded d p).scale) (signed-unsigned_abs d.digits)
    (rounded_to_rounds (is_negative d.digits) (unsigned_abs d.digits) d.scale p)

-- a decimal that is d rounded to p places is `rounded d p`
pub rounded_only : (d e : Decimal) (p : ℕ) → IsRounded (fraction d) p e.digits e.scale → e ≡ rounded d p
rounded_only d e p r =
    let same = rounds_to_one (fraction d) p e.digits e.scale (rounded d p).digits (rounded d p).scale r (rounded_rounds d p) in
    same_decimal e (rounded d p) same.0 same.1
