-- Powers of ten, and the bounds of a decimal in them.
use Rattle.gc_values.proofs.Common.{ℕ, ◌*◌, ◌^◌, ◌≤◌, arith, lit<, pow-le-pow_right}
pub use Rattle.gc_values.specs.RoundedFacts.{ten_pow_pos}

-- 10^k is at most 10^n where k is at most n
pub ten_pow_le : (k n : ℕ) → k ≤ n → 10 ^ k ≤ 10 ^ n
ten_pow_le k n h = pow-le-pow_right {n = 10} (lit< tt) h

-- the greatest decimal, 10^13, is at most 10^37 units of 10^-k, for k up to 24
pub bound_fits : (k : ℕ) → k ≤ 24 → 10 ^ 13 * 10 ^ k ≤ 10 ^ 37
bound_fits k h = omega (arith, ten_pow_le k 24 h)
