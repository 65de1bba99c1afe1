-- Decimals are in the order of their values. Signed numbers are given here as a sign, where `true` is a minus, and a magnitude.
use Rattle.gc_values.proofs.Common.{◌≡◌, ℕ, ◌+◌, ◌-◌, ◌*◌, ◌^◌, ◌<◌, Bool, true, false, ℤ, pos, ◌*ℤ◌, ◌<ℤ◌, sym, ap, subst, arith, mul-lt-mul_of_pos_right, lt_of_mul-lt-mul_right, ints, int_ranks, MatchOrdering, int_cmp, units_once, fraction, units, decimal_cmp, signed, IsBelow, ten_pow_cut, Decimal}
use Rattle.std.specs.declared.cmp.Ordering.{Ordering}
use Rattle.std.specs.declared.cmp.Ordering.TheVariants.{Less, Equal, Greater}
use Rattle.gc_values.proofs.DecimalLemmas.{same_decimal}
use Rattle.gc_values.proofs.Rounded.{has_sign}
use Rattle.gc_values.proofs.Signs.{signed-mul}

-- the number of sign b and magnitude x is below the one of sign c and magnitude y, where `true` is a minus
abbrev IsSignedBelow : (b : Bool) (x : ℕ) (c : Bool) (y : ℕ) → Type 0
IsSignedBelow false x false y = x < y
IsSignedBelow false x true y = ⊥
IsSignedBelow true x false y = 0 < x + y
IsSignedBelow true x true y = y < x

-- if one signed number is below another, `IsSignedBelow` holds of their signs and magnitudes
to_signed_below : (b : Bool) (x : ℕ) (c : Bool) (y : ℕ) → signed b x <ℤ signed c y → IsSignedBelow b x c y
to_signed_below false x false y h = omega (arith, ints, h)
to_signed_below false x true y h = omega (arith, ints, h)
to_signed_below true x false y h = omega (arith, ints, h)
to_signed_below true x true y h = omega (arith, ints, h)

-- if `IsSignedBelow` holds of signs and magnitudes, the one signed number is below the other
from_signed_below : (b : Bool) (x : ℕ) (c : Bool) (y : ℕ) → IsSignedBelow b x c y → signed b x <ℤ signed c y
from_signed_below false x false y h = omega (arith, ints)
from_signed_below false x true y h = absurd h
from_signed_below true x false y h = omega (arith, ints)
from_signed_below true x true y h = omega (arith, ints)

-- signed numbers keep their order when both are multiplied by p, which is above 0
signed_below_times : (b : Bool) (x : ℕ) (c : Bool) (y p : ℕ) → 0 < p → IsSignedBelow b x c y → IsSignedBelow b (x * p) c (y * p)
signed_below_times false x false y p some h = mul-lt-mul_of_pos_right h some
signed_below_times false x true y p some h = h
signed_below_times true x false y p some h = let all : 0 * p < (x + y) * p = mul-lt-mul_of_pos_right h some in omega arith
signed_below_times true x true y p some h = mul-lt-mul_of_pos_right h some

-- signed numbers keep their order when a common factor is taken out
signed_below_over : (b : Bool) (x : ℕ) (c : Bool) (y p : ℕ) → IsSignedBelow b (x * p) c (y * p) → IsSignedBelow b x c y
signed_below_over false x false y p h = lt_of_mul-lt-mul_right p h
signed_below_over false x true y p h = h
signed_below_over true x false y p h = let all : 0 * p < (x + y) * p = omega arith in lt_of_mul-lt-mul_right p all
signed_below_over true x true y p h = lt_of_mul-lt-mul_right p h

-- two values are something over a and something over d. In units of 1 / p, for p above 0, the first has a' for each 1 / a, and the
-- second d' for each 1 / d. If they are in order in these units, they are multiplied out, too
module _ (a a' d d' p : ℕ) (some : 0 < p) (e : a * a' ≡ p) (f : d * d' ≡ p) where
  -- if m / a and n / d, with these signs, are in order in units of 1 / p, m * d and n * a, with these signs, are in order
  less_multiplied : (b : Bool) (m : ℕ) (c : Bool) (n : ℕ) → IsSignedBelow b (m * a') c (n * d') → IsSignedBelow b (m * d) c (n * a)
  less_multiplied b m c n h =
      let left : m * a' * p ≡ m * d * (a' * d') = omega (arith, ap (λ x. m * a' * x) f) in
      let right : n * d' * p ≡ n * a * (a' * d') = omega (arith, ap (λ x. n * d' * x) e) in
      signed_below_over b (m * d) c (n * a) (a' * d')
      (subst (λ x. IsSignedBelow b x c (n * a * (a' * d'))) left (subst (λ y. IsSignedBelow b (m * a' * p) c y) right (signed_below_times b (m * a') c (n * d') p some h)))

  -- if two integers, each made of a sign and a magnitude, are in order in units of 1 / p, the one over a and the other over
  -- d, they are in order multiplied out
  less_multiplied_signed : (b : Bool) (m : ℕ) (c : Bool) (n : ℕ) → (signed b m *ℤ pos a') <ℤ (signed c n *ℤ pos d')
      → (signed b m *ℤ pos d) <ℤ (signed c n *ℤ pos a)
  less_multiplied_signed b m c n h =
      let there = to_signed_below b (m * a') c (n * d') (subst (λ x. x <ℤ signed c (n * d')) (signed-mul b m a') (subst (λ y. (signed b m *ℤ pos a') <ℤ y) (signed-mul c n d') h)) in
      subst (λ x. x <ℤ (signed c n *ℤ pos a)) (sym (signed-mul b m d)) (subst (λ y. signed b (m * d) <ℤ y) (sym (signed-mul c n a))
      (from_signed_below b (m * d) c (n * a) (less_multiplied b m c n there)))

  -- if z / a and w / d are in order in units of 1 / p, z * d and w * a are in order
  less_multiplied_whole : (z w : ℤ) → (z *ℤ pos a') <ℤ (w *ℤ pos d') → (z *ℤ pos d) <ℤ (w *ℤ pos a)
  less_multiplied_whole z w =
      let x = has_sign z in
      let y = has_sign w in
      subst (λ z. (z *ℤ pos a') <ℤ (w *ℤ pos d') → (z *ℤ pos d) <ℤ (w *ℤ pos a)) (sym x.2)
      (subst (λ w. (signed x.0 x.1 *ℤ pos a') <ℤ (w *ℤ pos d') → (signed x.0 x.1 *ℤ pos d) <ℤ (w *ℤ pos a)) (sym y.2) (less_multiplied_signed x.0 x.1 y.0 y.1))

-- a decimal of fewer units has a smaller value
pub below_from_units : (a b : Decimal) → units a <ℤ units b → IsBelow (fraction a) (fraction b)
below_from_units a b =
    less_multiplied_whole (10 ^ a.scale) (10 ^ (24 - a.scale)) (10 ^ b.scale) (10 ^ (24 - b.scale)) (10 ^ 24) (omega arith)
    (ten_pow_cut a.scale 24 a.has_few_places) (ten_pow_cut b.scale 24 b.has_few_places) a.digits b.digits

-- if an ordering says P, Q or R by its three cases, and P', Q' and R' follow from them, it says P', Q' or R'
ranked_as : (o : Ordering) (P Q R P' Q' R' : Type 0) → MatchOrdering o P Q R → (P → P') → (Q → Q') → (R → R') → MatchOrdering o P' Q' R'
ranked_as Less P Q R P' Q' R' h f g k = f h
ranked_as Equal P Q R P' Q' R' h f g k = g h
ranked_as Greater P Q R P' Q' R' h f g k = k h

-- the comparison of a with b says by its three cases that the value of a is below that of b, that a and b are equal, or that the
-- value of b is below that of a
pub cmp_ranks : (a b : Decimal) → MatchOrdering (decimal_cmp a b) (IsBelow (fraction a) (fraction b)) (a ≡ b) (IsBelow (fraction b) (fraction a))
cmp_ranks a b =
    ranked_as (int_cmp (units a) (units b)) (units a <ℤ units b) (units a ≡ units b) (units b <ℤ units a) (IsBelow (fraction a) (fraction b)) (a ≡ b) (IsBelow (fraction b) (fraction a))
    (int_ranks (units a) (units b)) (below_from_units a b) (λ e. let one = units_once a b e in same_decimal a b one.0 one.1) (below_from_units b a)
