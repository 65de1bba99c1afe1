-- What `rounded_units` computes of a numeral n. Up to the last of 24 places it has k digits, with zeros for those that are missing,
-- so that k + n.down is the count of the digits before its point, and n.up, and 24.
use Rattle.gc_values.proofs.Common.{◌≡◌, ℕ, ◌+◌, ◌-◌, ◌*◌, ◌^◌, ◌<◌, ◌≤◌, length, min, sym, ap, ◌∙◌, subst, arith, lit≤, length-append, mul-lt-mul_of_pos_left, pow-add, IsDigit, AreDigits, number, IsRoundedWithCap, RoundsToUnits, all_digits, kept, kept_and_rounded, ten_pow_cut, Numeral}
use Rattle.gc_values.proofs.Every.{every_append}
use Rattle.gc_values.proofs.Kept.{number-lt, rounds_digits, kept_and_rounded_past, min_mul}
use Rattle.gc_values.proofs.Powers.{ten_pow_pos, ten_pow_le}
use Rattle.gc_values.proofs.Rounding.{RoundsHalfUp, rounds_same_value, rounds_whole, rounds_to_zero}

-- a number times 10^(24 - 24), which is 1, is the number
times_one : (n : ℕ) → n ≡ n * 10 ^ (24 - 24)
times_one n = omega arith

-- a product may be regrouped where b is a times c
product_regrouped : (n a b c : ℕ) → b ≡ a * c → n * b ≡ n * a * c
product_regrouped n a b c e = omega (arith, ap (λ x. n * x) e)

-- all digits of a numeral are digits
all_are_digits : (n : Numeral) → AreDigits (all_digits n)
all_are_digits n = every_append IsDigit n.whole.now n.fraction.now n.whole_are_digits n.fraction_are_digits

-- how many digits a numeral has
abbrev pub size_of : Numeral → ℕ
size_of n = length n.whole.now + length n.fraction.now

-- the digits of a numeral, in a row, are as many as `size_of` says
size_counts_digits : (n : Numeral) → length (all_digits n) ≡ size_of n
size_counts_digits n = length-append n.whole.now n.fraction.now

-- a numeral with k digits up to the last of 24 places
module _ (n : Numeral) (k : ℕ) (places : k + n.down ≡ length n.whole.now + n.up + 24) where
  -- in units of 10^-24, the numeral's magnitude rounds to what the first k digits write, with the next one rounded in
  rounds_kept : (m : ℕ) → kept_and_rounded (all_digits n) k ≡ m → RoundsToUnits n m
  rounds_kept m e =
      let ds = all_digits n in
      let below : ℕ = length n.fraction.now + n.down in
      let size = size_counts_digits n in
      let exponents : k + below ≡ n.up + 24 + length ds = omega (arith, size, places) in
      let powers : 10 ^ k * 10 ^ below ≡ 10 ^ n.up * 10 ^ 24 * 10 ^ length ds =
      sym (pow-add 10 k below) ∙ ap (λ e. 10 ^ e) exponents ∙ pow-add 10 (n.up + 24) (length ds) ∙ ap (λ x. x * 10 ^ length ds) (pow-add 10 n.up 24) in
      let same : number ds * 10 ^ k * 10 ^ below ≡ number ds * 10 ^ n.up * 10 ^ 24 * 10 ^ length ds = omega (arith, ap (λ x. number ds * x) powers) in
      subst (RoundsToUnits n) e
      (rounds_same_value (number ds * 10 ^ k) (10 ^ length ds) (number ds * 10 ^ n.up * 10 ^ 24) (10 ^ below) (kept_and_rounded ds k) (ten_pow_pos (length ds))
      (ten_pow_pos below) same (rounds_digits ds k (all_are_digits n)))

  -- if k is `zeros` more than all digits, the first k digits are all of them and `zeros` zeros
  all_kept : (zeros : ℕ) → size_of n + zeros ≡ k → kept_and_rounded (all_digits n) k ≡ kept (all_digits n) (size_of n) * 10 ^ zeros
  all_kept zeros behind =
      let ds = all_digits n in
      let size = size_counts_digits n in
      let own : k - length ds ≡ zeros = omega (arith, size, behind) in
      kept_and_rounded_past ds k (omega (arith, size, behind)) ∙ ap (λ i. kept ds i * 10 ^ (k - length ds)) size ∙ ap (λ z. kept ds (size_of n) * 10 ^ z) own

  -- the numeral's magnitude, rounded to 24 places and cut off at the cap, has as many units of 10^-24 as the first k digits
  -- write, with the next one rounded in, or as the cap says where that is less
  pub capped_few : (cap units : ℕ) → units ≡ min cap (kept_and_rounded (all_digits n) k) → IsRoundedWithCap n cap units 24
  capped_few cap units e = record {
    m = kept_and_rounded (all_digits n) k;
    rounds = rounds_kept _ (times_one (kept_and_rounded (all_digits n) k));
    capped = e;
    places = lit≤ tt;
  }

  -- if the last digit is at place p after the point, for p up to 24, the numeral's magnitude, cut off at the cap, is what
  -- all digits write, or the cap where that is less, over 10^p
  pub capped_zeros : (cap more units p : ℕ) → size_of n + more ≡ k → more + p ≡ 24 → units ≡ min cap (kept (all_digits n) (size_of n))
      → IsRoundedWithCap n cap units p
  capped_zeros cap more units p behind all e = record {
    m = kept (all_digits n) (size_of n);
    rounds = rounds_kept (kept (all_digits n) (size_of n) * 10 ^ (24 - p)) (all_kept (24 - p) (omega (arith, behind, all)));
    capped = e;
    places = omega (arith, all);
  }

  -- if the last digit is `more` places before the last place before the point, the numeral's magnitude, cut off at the cap,
  -- is what all digits and `more` zeros after them write, or the cap where that is less
  pub capped_many : (cap more x units : ℕ) → size_of n + (24 + more) ≡ k → x ≡ min cap (kept (all_digits n) (size_of n)) → units ≡ min cap (x * 10 ^ more)
      → IsRoundedWithCap n cap units 0
  capped_many cap more x units behind all e =
      let d = kept (all_digits n) (size_of n) in
      let power : 10 ^ (more + 24) ≡ 10 ^ more * 10 ^ 24 = pow-add 10 more 24 in
      let whole : kept_and_rounded (all_digits n) k ≡ d * 10 ^ more * 10 ^ 24 =
      all_kept (more + 24) (omega (arith, behind)) ∙ product_regrouped d (10 ^ more) (10 ^ (more + 24)) (10 ^ 24) power in
      record {
        m = d * 10 ^ more;
        rounds = rounds_kept (d * 10 ^ more * 10 ^ 24) whole;
        capped = e ∙ ap (λ y. min cap (y * 10 ^ more)) all ∙ min_mul cap d (10 ^ more) (ten_pow_pos more);
        places = lit≤ tt;
      }

-- if the exponent moves all digits more than a place after the last of 24 places, the numeral's magnitude, rounded to 24
-- places, is 0
pub capped_none : (n : Numeral) (cap : ℕ) → length n.whole.now + n.up + 24 < n.down → IsRoundedWithCap n cap 0 24
capped_none n cap places = record { m = 0; rounds = rounds; capped = omega arith; places = lit≤ tt } where
  -- the magnitude in units of 10^-24 is less than a half
  rounds : RoundsToUnits n 0
  rounds =
      let ds = all_digits n in
      let below : ℕ = length n.fraction.now + n.down in
      let small : number ds * 10 ^ (n.up + 24) < 10 ^ length ds * 10 ^ (n.up + 24) =
      omega (arith, mul-lt-mul_of_pos_left {m = number ds} {n = 10 ^ length ds} {k = 10 ^ (n.up + 24)} (number-lt ds (all_are_digits n)) (ten_pow_pos (n.up + 24))) in
      let whole : 10 ^ (length ds + (n.up + 24)) ≡ 10 ^ length ds * 10 ^ (n.up + 24) = pow-add 10 (length ds) (n.up + 24) in
      let ten : 10 ^ (length ds + (n.up + 24) + 1) ≡ 10 ^ (length ds + (n.up + 24)) * 10 = pow-add 10 (length ds + (n.up + 24)) 1 in
      let under : 10 ^ (length ds + (n.up + 24) + 1) ≤ 10 ^ below = ten_pow_le _ _ (omega (arith, size_counts_digits n, places)) in
      let shape : number ds * 10 ^ (n.up + 24) ≡ number ds * 10 ^ n.up * 10 ^ 24 = omega (arith, ap (λ x. number ds * x) (pow-add 10 n.up 24)) in
      rounds_to_zero (number ds * 10 ^ n.up * 10 ^ 24) (10 ^ below) (ten_pow_pos below) (omega arith)

-- if a numeral has at most 18 digits and no exponent, its magnitude is what all digits write, over 10^(the count of those after
-- the point), and a cap from 10^18 on changes nothing
pub capped_short : (n : Numeral) (cap units : ℕ) → size_of n ≤ 18 → n.up ≡ 0 → n.down ≡ 0 → 10 ^ 18 ≤ cap → units ≡ number (all_digits n)
    → IsRoundedWithCap n cap units (length n.fraction.now)
capped_short n cap units few no_up no_down room e =
    let ds = all_digits n in
    let f : ℕ = length n.fraction.now in
    let size = size_counts_digits n in
    let same : number ds * 10 ^ (24 - f) * 10 ^ f ≡ number ds * 10 ^ 0 * 10 ^ 24 = omega (arith, ap (λ p. number ds * p) (ten_pow_cut f 24 (omega (arith, few)))) in
    let exact : RoundsHalfUp (number ds * 10 ^ 0 * 10 ^ 24) (10 ^ f) (number ds * 10 ^ (24 - f)) =
    subst (λ a. RoundsHalfUp a (10 ^ f) (number ds * 10 ^ (24 - f))) same (rounds_whole (number ds * 10 ^ (24 - f)) (10 ^ f) (ten_pow_pos f)) in
    record {
      m = number ds;
      rounds = subst (λ u. RoundsHalfUp (number ds * 10 ^ u * 10 ^ 24) (10 ^ (f + n.down)) (number ds * 10 ^ (24 - f))) (sym no_up)
          (subst (λ k. RoundsHalfUp (number ds * 10 ^ 0 * 10 ^ 24) (10 ^ k) (number ds * 10 ^ (24 - f))) (let k : f ≡ f + n.down = omega (arith, no_down) in k) exact);
      capped = omega (arith, e, number-lt ds (all_are_digits n), ten_pow_le (length ds) 18 (omega (arith, size, few)), room);
      places = omega (arith, few);
    }
