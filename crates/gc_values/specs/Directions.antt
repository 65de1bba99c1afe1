-- Directions of a telescope, and whether one is near another: on the circle, and whichever face it was measured in. That angles
-- are in radians and which of them face II has are the manual's; the bounds are this project's own. Every number is a whole one,
-- in units of 10^-24 radians, the last place that a decimal may have: so nothing here is rounded.
use Rattle.std.specs.Prelude.{◌≡◌, ◌↔◌, ◌≤◌, ◌&&◌, ◌||◌, Bool, true, if◌then◌else◌, ℤ, pos, negsuc, ◌+ℤ◌, ◌-ℤ◌, ◌*ℤ◌, ◌≤ℤ◌, int_le, unsigned_abs}
use Rattle.gc_values.specs.Decimals.{units}
use Rattle.gc_values.specs.declared.decimal.Decimal.{Decimal}
use Rattle.gc_values.specs.declared.direction.Direction.{Direction}

-- half a turn, P: pi to 24 places
abbrev pub half_turn : ℤ
half_turn = pos 3141592653589793238462643

-- a whole turn, 2P
abbrev pub turn : ℤ
turn = pos 6283185307179586476925286

-- the vertical angle v in face I: v itself where it is at most half a turn; else the telescope is in face II, and the angle is
-- 2P - v
abbrev pub v_in_face_one : Direction → ℤ
v_in_face_one d = if int_le (units d.v) half_turn then units d.v else turn -ℤ units d.v

-- the horizontal direction h in face I: h itself where v is at most half a turn, and else h - P
abbrev pub hz_in_face_one : Direction → ℤ
hz_in_face_one d = if int_le (units d.v) half_turn then units d.hz else units d.hz -ℤ half_turn

-- whether x and y are at most `most` apart
abbrev pub is_close : (most x y : ℤ) → Bool
is_close most x y = int_le (pos (unsigned_abs (x -ℤ y))) most

-- whether x plus `turns` whole turns and y are at most `most` apart
abbrev pub is_close_turned : (most turns x y : ℤ) → Bool
is_close_turned most turns x y = is_close most (x +ℤ turns *ℤ turn) y

-- whether x and y are at most `most` apart on the circle: `is_close_turned` is true for some number of turns from -2 to 2
abbrev pub is_close_on_circle : (most x y : ℤ) → Bool
is_close_on_circle most x y =
    is_close_turned most (negsuc 1) x y || (is_close_turned most (negsuc 0) x y || (is_close_turned most (pos 0) x y
    || (is_close_turned most (pos 1) x y || is_close_turned most (pos 2) x y)))

-- whether a direction is near a place: both of its angles, as face I has them, are at most the tolerance from the place's, the
-- horizontal one on the circle
unfoldable pub is_near : (d place : Direction) → (tolerance : Decimal) → Bool
is_near d place tolerance =
    is_close (units tolerance) (v_in_face_one d) (units place.v) && is_close_on_circle (units tolerance) (hz_in_face_one d) (units place.hz)

-- whether x is from 0 to `most`, both included
abbrev pub is_up_to : (most x : ℤ) → Bool
is_up_to most x = int_le (pos 0) x && int_le x most

-- whether a direction is a place as face I has it: the horizontal direction from 0 to a turn, the vertical angle from 0 to half a
-- turn
unfoldable pub is_place : Direction → Bool
is_place d = is_up_to turn (units d.hz) && is_up_to half_turn (units d.v)

-- whether a number is a tolerance: it is from 0 to half a turn
unfoldable pub is_tolerance : Decimal → Bool
is_tolerance t = is_up_to half_turn (units t)

-- a direction is near a place: its vertical angle in face I is at most the tolerance away, and so is its horizontal one, once it
-- was turned by at most two whole turns either way
pub record IsNear (d place : Direction) (tolerance : Decimal) : Type 0 where
  pub turns : ℤ
  pub few : unsigned_abs turns ≤ 2
  pub v_near : pos (unsigned_abs (v_in_face_one d -ℤ units place.v)) ≤ℤ units tolerance
  pub hz_near : pos (unsigned_abs (hz_in_face_one d +ℤ turns *ℤ turn -ℤ units place.hz)) ≤ℤ units tolerance

-- the test `is_near` is true exactly where a direction is near a place, as `IsNear` has it
abbrev pub NearIsWithinTheTolerance : Type 0
NearIsWithinTheTolerance = (d place : Direction) (tolerance : Decimal) → (is_near d place tolerance ≡ true) ↔ IsNear d place tolerance
