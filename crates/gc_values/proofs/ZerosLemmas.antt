-- A zero at the end of a decimal's digits is taken off, and the value stays.
use Rattle.gc_values.proofs.Common.{◌≡◌, ℕ, suc, ◌-◌, ◌*◌, ◌/◌, ◌%◌, ◌^◌, ◌<◌, sym, ap, ◌∙◌, arith, lit<, pow-suc, eq_of_mul-eq-mul_left}
pub use Rattle.gc_values.specs.RoundedFacts.{zeros_in_range}

-- for t above 0: where n / 10^t is the value m / 10^s, and n ends in a zero, (n / 10) / 10^(t - 1) is that value, too
pub zero_off : (m t n s : ℕ) → 0 < t → n % 10 ≡ 0 → m * 10 ^ t ≡ n * 10 ^ s → m * 10 ^ (t - 1) ≡ (n / 10) * 10 ^ s
zero_off m t n s some zero_behind same =
    let back : suc (t - 1) ≡ t = omega arith in
    let power : 10 ^ t ≡ 10 ^ (t - 1) * 10 = ap (λ k. 10 ^ k) (sym back) ∙ pow-suc 10 (t - 1) in
    let ten : n ≡ 10 * (n / 10) = omega arith in
    eq_of_mul-eq-mul_left 10 (lit< tt) _ _ (omega (arith, same, ap (λ p. m * p) power, ap (λ k. k * 10 ^ s) ten))
