-- What the code of shifts computes, in whole numbers that 128 bits hold.
use Rattle.gc_scenes.proofs.Common.{◌≡◌, ℕ, ◌*◌, ◌^◌, ◌≤◌, Bool, true, false, ℤ, pos, ◌+ℤ◌, ◌*ℤ◌, unsigned_abs, refl, sym, ap, ◌∙◌, subst, arith, leb-true, le-leb, false≢true, Decimal}
use Rattle.std.proofs.lemmas.Int.{ints}
use Rattle.gc_values.specs.Prelude.{units, SameValue, IsInRange, Fraction, is_negative, signed, stripped_is, stripped}
use Rattle.gc_values.proofs.DecimalLaws.{rounding_unique}
use Rattle.gc_values.proofs.NearLemmas.{as_i128, as_i128_same}
use Rattle.gc_values.proofs.Rounded.{exact_rounds}
use Rattle.gc_values.proofs.RoundedDecimals.{signed-unsigned_abs}
use Rattle.gc_values.proofs.Signs.{signed-mul}
use Rattle.gc_scenes.specs.Shifting.{are_in_range, of_units, shifted}

-- two decimals with the value of z units are equal
one_decimal : (z : ℤ) (d e : Decimal) → SameValue d.digits d.scale z 24 → SameValue e.digits e.scale z 24 → d ≡ e
one_decimal z d e x y =
    let q : Fraction = record { n = z; k = 24 } in
    rounding_unique q 24 d e (exact_rounds q 24 d.digits d.scale d.is_canonical d.has_few_places x) (exact_rounds q 24 e.digits e.scale e.is_canonical e.has_few_places y)

-- where n * k is m * j, these products stay equal if n and m get the same sign: minus if `b`, else plus
signed_same : (b : Bool) (m n k j : ℕ) → n * k ≡ m * j → signed b n *ℤ pos k ≡ signed b m *ℤ pos j
signed_same b m n k j e = signed-mul b n k ∙ ap (signed b) e ∙ sym (signed-mul b m j)

-- the decimal that `of_units` makes of z units that are in range has the value of z units
units_value : (z : ℤ) (h : are_in_range z ≡ true) (d : Decimal) → SameValue (of_units true z h d).digits (of_units true z h d).scale z 24
units_value z h d =
    let m = unsigned_abs z in
    let w = stripped_is m 24 in
    signed_same (is_negative z) m (stripped m 24).digits (10 ^ 24) (10 ^ (stripped m 24).places) (sym w.same) ∙ ap (λ (x : ℤ). x *ℤ pos (10 ^ (stripped m 24).places)) (signed-unsigned_abs z)

-- a decimal with the value of z units, which are in range, is the one that `of_units` gives
of_units_in_range : (b : Bool) (z : ℤ) (h : are_in_range z ≡ b) (d moved : Decimal) → SameValue moved.digits moved.scale z 24 → IsInRange z 24 → moved ≡ of_units b z h d
of_units_in_range true z h d moved same within = one_decimal z moved (of_units true z h d) same (units_value z h d)
of_units_in_range false z h d moved same within = absurd (false≢true (sym h ∙ le-leb (unsigned_abs z) (10 ^ 13 * 10 ^ 24) within))

-- where z units are out of range, `of_units` leaves the decimal as it is
of_units_out_of_range : (b : Bool) (z : ℤ) (h : are_in_range z ≡ b) (d : Decimal) → (IsInRange z 24 → ⊥) → d ≡ of_units b z h d
of_units_out_of_range true z h d out = absurd (out (leb-true (unsigned_abs z) (10 ^ 13 * 10 ^ 24) h))
of_units_out_of_range false z h d out = refl

-- a number of at most 10^37 and one of at most 3 * 10^37, either way from 0, have a sum of at most 4 * 10^37
sum_small : (x y : ℤ) → unsigned_abs x ≤ 10 ^ 37 → unsigned_abs y ≤ 3 * 10 ^ 37 → unsigned_abs (x +ℤ y) ≤ 4 * 10 ^ 37
sum_small x y a b = omega (arith, ints, a, b)

-- the sum of a decimal's units, at most 10^37, and of `by`, at most 3 * 10^37, that the code computes in 128 bits is exact
pub sum_is : (d : Decimal) (u by : ℤ) → u ≡ units d → unsigned_abs u ≤ 10 ^ 37 → unsigned_abs by ≤ 3 * 10 ^ 37
    → as_i128 (as_i128 u +ℤ as_i128 by) ≡ units d +ℤ by
sum_is d u by is a b =
    ap (λ x. as_i128 (x +ℤ as_i128 by)) (as_i128_same u (omega (arith, a))) ∙ ap (λ x. as_i128 (u +ℤ x)) (as_i128_same by (omega (arith, b)))
    ∙ as_i128_same (u +ℤ by) (sum_small u by a b) ∙ ap (λ x. x +ℤ by) is

-- where the sum of a decimal's units and `by` is in range, the decimal with the value of the sum (`moved`) is the shifted one
-- (`shifted`)
pub shifted_made : (d moved : Decimal) (by sum : ℤ) → sum ≡ units d +ℤ by → SameValue moved.digits moved.scale sum 24 → IsInRange sum 24
    → moved ≡ shifted d by
unfolding shifted
shifted_made d moved by sum is same within =
    of_units_in_range _ (units d +ℤ by) refl d moved (subst (λ (z : ℤ). SameValue moved.digits moved.scale z 24) is same) (subst (λ (z : ℤ). IsInRange z 24) is within)

-- where the sum of a decimal's units and `by` is out of range, `shifted` leaves the decimal as it is
pub shifted_kept : (d : Decimal) (by sum : ℤ) → sum ≡ units d +ℤ by → (IsInRange sum 24 → ⊥) → d ≡ shifted d by
unfolding shifted
shifted_kept d by sum is out = of_units_out_of_range _ (units d +ℤ by) refl d (λ within. out (subst (λ (z : ℤ). IsInRange z 24) (sym is) within))
