-- No part of a promise: how the rounding of `Fraction` is computed. `gap a b` is how far a and b are apart. `half_up a b` is the
-- whole number nearest to a / b, for b above 0, and of two that are equally near the greater one, as `RoundsHalfUp` has it.
use Rattle.std.specs.Prelude.{◌≡◌, ℕ, ◌-◌, ◌*◌, ◌^◌, ◌<◌, ◌≤◌, min, ℤ, Bool}
use Rattle.gc_values.specs.Fraction.{signed}
use Rattle.gc_values.specs.Zeros.{WithoutZeros, Placed, stripped}
pub use Rattle.std.specs.Float.{ratio_round_half_up as half_up}
pub use Rattle.std.specs.Int.{abs_diff as gap}

-- m is the whole number nearest to a / b, and of two that are equally near the greater one
pub record RoundsHalfUp (a b m : ℕ) : Type 0 where
  pub near : 2 * gap a (m * b) ≤ b
  pub tie : 2 * gap a (m * b) ≡ b → a < m * b

-- m / 10^s is magnitude / 10^p with a minus where `negative`, and without the zeros at its end
pub record SignedWithoutZeros (negative : Bool) (magnitude p : ℕ) (m : ℤ) (s : ℕ) : Type 0 where
  pub n : ℕ
  pub m_is : m ≡ signed negative n
  pub zeros : WithoutZeros magnitude p n s

-- m / 10^s rounded to at most p places, as `half_up` has it, without the zeros at its end
abbrev pub rounded_to : (m s p : ℕ) → Placed
rounded_to m s p = stripped (half_up m (10 ^ (s - p))) (min s p)
