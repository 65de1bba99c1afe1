-- No part of a promise: how the zeros at the end of a decimal's digits are taken off.
use Rattle.std.specs.Prelude.{◌≡◌, ◌≢◌, ℕ, zero, suc, ◌*◌, ◌/◌, ◌%◌, ◌^◌, ◌==◌, ◌<◌, ◌≤◌, if◌then◌else◌}

-- n / 10^t is m / 10^s without the zeros at its end
pub record WithoutZeros (m s n t : ℕ) : Type 0 where
  pub same : m * 10 ^ t ≡ n * 10 ^ s
  pub fewer : t ≤ s
  pub canonical : 0 < t → n % 10 ≢ 0

-- the number digits / 10^places
pub record Placed : Type 0 where
  pub digits : ℕ
  pub places : ℕ

-- m / 10^s without the zeros at its end, computed: what `WithoutZeros` is true of
abbrev pub stripped : (m s : ℕ) → Placed
stripped m zero = record { digits = m; places = zero }
stripped m (suc s) = if m % 10 == 0 then stripped (m / 10) s else record { digits = m; places = suc s }
