-- What a text spells that reads as a numeral.
use Rattle.gc_values.proofs.Common.{◌≡◌, ℕ, ◌+◌, ◌-◌, ◌*◌, ◌^◌, ◌<◌, ◌≤◌, Bool, List, ◌++◌, length, ℤ, unsigned_abs, sym, ap, ◌∙◌, subst, arith, mul-lt-mul_of_pos_left, lt_of_mul-lt-mul_left, ReadsNumeral, zeros_at_24, number, Fraction, signed, IsRounded, IsInRange, IsRoundedWithCap, all_digits, RoundsHalfUp, SignedWithoutZeros, parts_value, NamesFraction, Spells, SpellsBeyond, is_minus, fraction_digits, ups, WithoutZeros, Numeral}
use Rattle.gc_values.proofs.Powers.{ten_pow_pos, bound_fits}
use Rattle.gc_values.proofs.Rounded.{has_form_without_zeros, rounded_from, rounds_to_one}
use Rattle.gc_values.proofs.Signs.{unsigned_abs-signed}
use Rattle.gc_values.proofs.Unique.{names_once}

-- the fraction of a sign, digits before and after the point, and an exponent
abbrev fraction_with : (negative : Bool) (whole fraction : List ℕ) (up down : ℕ) → Fraction
fraction_with negative whole fraction up down = record { n = signed negative (number (whole ++ fraction) * 10 ^ up); k = length fraction + down }

-- the fraction that a numeral stands for
abbrev fraction_of : Numeral → Fraction
fraction_of n = fraction_with n.negative n.whole.now n.fraction.now n.up n.down

-- if a text reads as a numeral, the fraction of this numeral is the value of the text's parts
same_fraction : (text : List ℕ) (n : Numeral) (r : ReadsNumeral text n) → fraction_of n ≡ parts_value r.parts
same_fraction text n r =
    ap (λ b. fraction_with b n.whole.now n.fraction.now n.up n.down) r.negative_is
    ∙ ap (λ w. fraction_with (is_minus r.parts.sign) w n.fraction.now n.up n.down) r.whole_is
    ∙ ap (λ f. fraction_with (is_minus r.parts.sign) r.parts.whole f n.up n.down) r.fraction_is
    ∙ ap (λ u. fraction_with (is_minus r.parts.sign) r.parts.whole (fraction_digits r.parts.fraction) u n.down) r.up_is
    ∙ ap (λ d. fraction_with (is_minus r.parts.sign) r.parts.whole (fraction_digits r.parts.fraction) (ups r.parts.exponent) d) r.down_is

-- a text that reads as a numeral names the fraction of this numeral
reads_names : (text : List ℕ) (n : Numeral) → ReadsNumeral text n → NamesFraction text (fraction_of n)
reads_names text n r = (r.parts, r.form, r.text_is, same_fraction text n r)

-- the text is a number with the parts of this numeral, and `units` over 10^p is its magnitude, rounded to 24 places and cut off at
-- the cap 10^37 + 1
pub record ReadsUnits (text : List ℕ) (n : Numeral) (units p : ℕ) : Type 0 where
  pub numeral : ReadsNumeral text n
  pub rounded : IsRoundedWithCap n (10 ^ 37 + 1) units p

-- if a text reads as `units` over 10^p (`ReadsUnits`), this is in range, and m / 10^s is made of it (`SignedWithoutZeros`),
-- the text spells m / 10^s
pub reads_value : (text : List ℕ) (n : Numeral) (units p : ℕ) (m : ℤ) (s : ℕ) → ReadsUnits text n units p → units ≤ 10 ^ 13 * 10 ^ p
    → SignedWithoutZeros n.negative units p m s → Spells text m s
reads_value text n units p m s r within made =
    let a : ℕ = number (all_digits n) * 10 ^ n.up in
    let k : ℕ = length n.fraction.now + n.down in
    let c = r.rounded in
    let same : c.m ≡ units = let e = c.capped in omega (arith, bound_fits p c.places) in (
      fraction_of n,
      reads_names text n r.numeral,
      subst (λ z. IsRounded (fraction_of n) 24 z s) (sym made.m_is)
          (rounded_from n.negative a k 24 (units * 10 ^ (24 - p)) made.n s
          (subst (λ u. RoundsHalfUp (a * 10 ^ 24) (10 ^ k) (u * 10 ^ (24 - p))) same c.rounds)
          (zeros_at_24 units p made.n s c.places made.zeros)),
    )

-- a number above the bound, 10^13, is still above it without the zeros at its end
beyond_bound : (m p n s : ℕ) → 10 ^ 13 * 10 ^ p < m → WithoutZeros m p n s → 10 ^ 13 * 10 ^ s < n
beyond_bound m p n s large w =
    let same = w.same in
    lt_of_mul-lt-mul_left (10 ^ p) (omega (arith, same, mul-lt-mul_of_pos_left {m = 10 ^ 13 * 10 ^ p} {n = m} {k = 10 ^ s} large (ten_pow_pos s)))

-- if a text reads as `units` over 10^p (`ReadsUnits`), and this is above the bound, 10^13, the text spells a number out of
-- range
pub reads_beyond : (text : List ℕ) (n : Numeral) (units p : ℕ) → ReadsUnits text n units p → 10 ^ 13 * 10 ^ p < units → SpellsBeyond text
reads_beyond text n units p r above =
    let a : ℕ = number (all_digits n) * 10 ^ n.up in
    let c = r.rounded in
    let large : 10 ^ 13 * 10 ^ p < c.m = let e = c.capped in omega arith in
    let z = has_form_without_zeros c.m p in (
      signed n.negative z.0,
      z.1,
      (
        fraction_of n,
        reads_names text n r.numeral,
        rounded_from n.negative a (length n.fraction.now + n.down) 24 (c.m * 10 ^ (24 - p)) z.0 z.1 c.rounds (zeros_at_24 c.m p z.0 z.1 c.places z.2),
      ),
      subst (λ n. 10 ^ 13 * 10 ^ z.1 < n) (sym (unsigned_abs-signed n.negative z.0)) (beyond_bound c.m p z.0 z.1 large z.2),
    )

-- a text spells at most one m / 10^s: two that it spells have the same digits and places
pub spells_once : (text : List ℕ) (m : ℤ) (s : ℕ) (n : ℤ) (t : ℕ) → Spells text m s → Spells text n t → (m ≡ n) × (s ≡ t)
spells_once text m s n t x y = rounds_to_one x.0 24 m s n t x.2 (subst (λ q. IsRounded q 24 n t) (names_once text y.0 x.0 y.1 x.1) y.2)

-- a text doesn't spell a decimal in range and a number beyond it
pub in_range_only : (text : List ℕ) (m : ℤ) (s : ℕ) → Spells text m s → IsInRange m s → SpellsBeyond text → ⊥
in_range_only text m s x within b =
    let same = spells_once text m s b.0 b.1 x b.2 in
    let far = b.3 in
    omega (arith, within, far, ap unsigned_abs same.0, ap (λ t. 10 ^ 13 * 10 ^ t) same.1)
