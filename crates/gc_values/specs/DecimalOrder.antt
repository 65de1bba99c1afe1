-- No part of a promise: two decimals of one value are one decimal, which the comparison of decimals rests on.
use Rattle.std.proofs.Common.{◌≡◌, ◌≢◌, ℕ, suc, ◌+◌, ◌-◌, ◌*◌, ◌%◌, ◌^◌, ◌<◌, ◌≤◌, ◌==◌, ◌&&◌, Bool, ℤ, pos, negsuc, neg_ℤ, ◌*ℤ◌, unsigned_abs, refl, sym, ap, ◌∙◌, subst, inl, inr, arith}
use Rattle.std.proofs.Math.IntN.{pos-*ℤ-pos, negsuc-*ℤ-pos}
use Rattle.std.proofs.Math.Nat.{mul-pos, eq_of_mul-eq-mul_left, mul-mod_left, pow-suc}
use Rattle.std.proofs.lemmas.Bool.{cases_order}
use Rattle.std.proofs.lemmas.Cmp.{int_cmp_total, on_total}
use Rattle.std.proofs.lemmas.Int.{ints, unsigned_abs-mul}
use Rattle.std.proofs.lemmas.Nat.{pow-add}
use Rattle.std.specs.Bool.{Decides, one_answer}
use Rattle.std.specs.Cmp.{IsTotalOrder, IsPartialOrder, partial_order_from_agreeing_total, first_so, second_so, signed_Decides, unsigned_Decides}
use Rattle.std.specs.Ordering.{int_eq, eq_by_cmp, as_partial_cmp}
use Rattle.gc_values.specs.Decimals.{units, decimal_eq, decimal_cmp}
use Rattle.gc_values.specs.Fraction.{units_of}
use Rattle.gc_values.specs.RoundedFacts.{ten_pow_pos, ten_pow_cut}
use Rattle.gc_values.specs.Zeros.{WithoutZeros}
use Rattle.gc_values.specs.declared.decimal.Decimal.{Decimal}

-- n / 10^s and k / 10^t can't both be m / 10^p without the zeros at its end, where s is below t
fewer_zeros : (m p n s k t : ℕ) → WithoutZeros m p n s → WithoutZeros m p k t → s < t → ⊥
fewer_zeros m p n s k t v w lt =
    let back : s + suc (t - suc s) ≡ t = omega arith in
    let power : 10 ^ t ≡ 10 ^ s * (10 ^ (t - suc s) * 10) = ap (λ e. 10 ^ e) (sym back) ∙ pow-add 10 s (suc (t - suc s)) ∙ ap (λ x. 10 ^ s * x) (pow-suc 10 (t - suc s)) in
    let more : n * 10 ^ (t - suc s) * 10 ≡ k =
    eq_of_mul-eq-mul_left (10 ^ p * 10 ^ s) (mul-pos (ten_pow_pos p) (ten_pow_pos s)) _ _
    (omega (arith, ap (λ x. x * (10 ^ (t - suc s) * 10 * 10 ^ s)) v.same, ap (λ x. x * 10 ^ s) w.same, ap (λ x. m * 10 ^ s * x) power)) in
    w.canonical (omega arith) (ap (λ x. x % 10) (sym more) ∙ mul-mod_left (n * 10 ^ (t - suc s)) 10)

-- m / 10^p has one form without the zeros at its end: where n / 10^s and k / 10^t both are that form, they are the same
pub zeros_once : (m p n s k t : ℕ) → WithoutZeros m p n s → WithoutZeros m p k t → (n ≡ k) × (s ≡ t)
zeros_once m p n s k t v w = elim (cases_order s t) [
  | inl same ↦ (eq_of_mul-eq-mul_left (10 ^ p) (ten_pow_pos p) n k (omega (arith, v.same, w.same, ap (λ e. m * 10 ^ e) same)), same)
  | inr apart ↦ elim apart [
    | inl below ↦ absurd (fewer_zeros m p n s k t v w below)
    | inr above ↦ absurd (fewer_zeros m p k t n s w v above)
  ]
]

-- for p up to 24, m / 10^p and m * 10^(24 - p) / 10^24 are one number: where n / 10^s is the first without the zeros at its end,
-- it is the second without them, too
pub zeros_at_24 : (m p n s : ℕ) → p ≤ 24 → WithoutZeros m p n s → WithoutZeros (m * 10 ^ (24 - p)) 24 n s
zeros_at_24 m p n s places w = record {
  same = omega (arith, ap (λ x. x * 10 ^ (24 - p)) w.same, ap (λ x. n * x) (ten_pow_cut p 24 places));
  fewer = let f = w.fewer in omega (arith, f);
  canonical = w.canonical;
}

-- where m / 10^s has at most 24 places and needs them all, it is m * 10^(24 - s) over 10^24 without the zeros at its end
units_without_zeros : (m s : ℕ) → s ≤ 24 → (0 < s → m % 10 ≢ 0) → WithoutZeros (m * 10 ^ (24 - s)) 24 m s
units_without_zeros m s places canonical = zeros_at_24 m s m s places (record { same = refl; fewer = omega arith; canonical = canonical })

-- integers z and w of one magnitude are equal where z * p and w * p are, for p above 0
factor_cancels : (z w : ℤ) (p : ℕ) → 0 < p → unsigned_abs z ≡ unsigned_abs w → z *ℤ pos p ≡ w *ℤ pos p → z ≡ w
factor_cancels (pos a) (pos b) p some size e = ap pos size
factor_cancels (negsuc a) (negsuc b) p some size e = let same : a ≡ b = omega arith in ap negsuc same
factor_cancels (pos a) (negsuc b) p some size e =
    let there : pos (a * p) ≡ neg_ℤ (pos (suc b * p)) = sym (pos-*ℤ-pos a p) ∙ e ∙ negsuc-*ℤ-pos b p in
    absurd (omega (arith, ints, there))
factor_cancels (negsuc a) (pos b) p some size e =
    let there : neg_ℤ (pos (suc a * p)) ≡ pos (b * p) = sym (negsuc-*ℤ-pos a p) ∙ e ∙ pos-*ℤ-pos b p in
    absurd (omega (arith, ints, there))

-- decimals of equal values have equal digits and scales
pub units_once : (a b : Decimal) → units a ≡ units b → (a.digits ≡ b.digits) × (a.scale ≡ b.scale)
units_once a b e =
    let size : unsigned_abs a.digits * 10 ^ (24 - a.scale) ≡ unsigned_abs b.digits * 10 ^ (24 - b.scale) =
    sym (unsigned_abs-mul a.digits (pos (10 ^ (24 - a.scale)))) ∙ ap unsigned_abs e ∙ unsigned_abs-mul b.digits (pos (10 ^ (24 - b.scale))) in
    let za = units_without_zeros (unsigned_abs a.digits) a.scale a.has_few_places a.is_canonical in
    let zb = units_without_zeros (unsigned_abs b.digits) b.scale b.has_few_places b.is_canonical in
    let one = zeros_once (unsigned_abs a.digits * 10 ^ (24 - a.scale)) 24 (unsigned_abs a.digits) a.scale (unsigned_abs b.digits) b.scale za
    (subst (λ u. WithoutZeros u 24 (unsigned_abs b.digits) b.scale) (sym size) zb) in (
      factor_cancels a.digits b.digits (10 ^ (24 - b.scale)) (ten_pow_pos (24 - b.scale)) one.0 (ap (λ s. a.digits *ℤ pos (10 ^ (24 - s))) (sym one.1) ∙ e),
      one.1,
    )

-- the order of decimals is total
pub cmp_total : IsTotalOrder decimal_cmp
cmp_total = on_total units int_cmp_total

-- `==` says that decimals are equal exactly where the order does
pub cmp_matches_eq : (a b : Decimal) → decimal_eq a b ≡ eq_by_cmp decimal_cmp a b
cmp_matches_eq a b =
    let same : Bool = decimal_eq a b in
    let fields : Decides same (units a ≡ units b) = (
      λ h.
          let m : a.digits ≡ b.digits = (signed_Decides a.digits b.digits).0 (first_so (int_eq a.digits b.digits) (a.scale == b.scale) h) in
          let s : a.scale ≡ b.scale = (unsigned_Decides a.scale b.scale).0 (second_so (int_eq a.digits b.digits) (a.scale == b.scale) h) in
          ap (λ z. units_of z a.scale) m ∙ ap (units_of b.digits) s,
      λ e.
          let one = units_once a b e in
          ap (λ t. t && (a.scale == b.scale)) ((signed_Decides a.digits b.digits).1 one.0) ∙ (unsigned_Decides a.scale b.scale).1 one.1,
    ) in
    one_answer same (int_eq (units a) (units b)) fields (signed_Decides (units a) (units b))

-- the order of decimals, as a partial one, keeps the laws of partial orders
pub cmp_order : IsPartialOrder decimal_eq (as_partial_cmp decimal_cmp)
cmp_order = partial_order_from_agreeing_total decimal_cmp cmp_total (λ a b. refl) cmp_matches_eq
