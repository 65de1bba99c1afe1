-- Worked examples of directions that are near, and of some that aren't. Places are in face I, and all numbers in radians.
use Rattle.std.specs.Prelude.{◌≡◌, ℕ, IsTrue, true, false, pos, refl}
use Rattle.gc_values.specs.Decimals.{decimal}
use Rattle.gc_values.specs.Directions.{is_near}
use Rattle.gc_values.specs.Fraction.{is_decimal}
use Rattle.gc_values.specs.declared.decimal.Decimal.{Decimal}
use Rattle.gc_values.specs.declared.direction.Direction.{Direction}

-- the direction with the horizontal direction m / 10^s and the vertical angle n / 10^t
abbrev pub pointing : (m s n t : ℕ) → IsTrue (is_decimal (pos m) s) → IsTrue (is_decimal (pos n) t) → Direction
pointing m s n t h k = record { hz = decimal (pos m) s h; v = decimal (pos n) t k }

-- 0.01
abbrev pub hundredth : Decimal
hundredth = decimal (pos 1) 2 refl

-- a prism at 2.25, 1.625
abbrev pub prism : Direction
prism = pointing 225 2 1625 3 refl refl

-- each example with the answer of `is_near`
pub record NearByExample : Type 0 where
  -- 6.28 and 0.001 are near on the circle, either way round
  pub circle : is_near (pointing 628 2 15 1 refl refl) (pointing 1 3 15 1 refl refl) hundredth ≡ true
  pub circle_back : is_near (pointing 1 3 15 1 refl refl) (pointing 628 2 15 1 refl refl) hundredth ≡ true
  -- what face II shows of the prism: 2.25 + P and 2P - 1.625, also as an instrument rounds it, 5.392 and 4.658
  pub face_two : is_near (pointing 5391592653589793238462643 24 4658185307179586476925286 24 refl refl) prism (decimal (pos 0) 0 refl) ≡ true
  pub face_two_rounded : is_near (pointing 5392 3 4658 3 refl refl) prism hundredth ≡ true
  -- one angle alone isn't enough: 2.5, 1.625 and 2.25, 1.75
  pub v_alone : is_near (pointing 25 1 1625 3 refl refl) prism hundredth ≡ false
  pub hz_alone : is_near (pointing 225 2 175 2 refl refl) prism hundredth ≡ false
  -- the bound itself is near, 2.26 and 1.615, and the least that a decimal can have beyond it isn't
  pub bound : is_near (pointing 226 2 1615 3 refl refl) prism hundredth ≡ true
  pub beyond_in_hz : is_near (pointing 2260000000000000000000001 24 1625 3 refl refl) prism hundredth ≡ false
  pub beyond_in_v : is_near (pointing 225 2 1614999999999999999999999 24 refl refl) prism hundredth ≡ false
