-- The ways of real instruments that a scene's instrument may have, each by itself: this project's own, from memory, and no
-- statement about an instrument. Angles are whole numbers of units, 10^-24 radians each.
use Rattle.gc_scenes.specs.Common.{units, half_turn, turn, signed, Decimal, Answer, Call, Pointing, Target}
use Rattle.std.specs.Prelude.{ℕ, ℤ, ◌-◌, ◌%◌, ◌==◌, ◌&&◌, ◌||◌, ◌+ℤ◌, ◌-ℤ◌, Bool, true, false, List, [], ◌∷◌, Option, Some, None, nat_le, int_le, int_lt, unsigned_abs, if◌then◌else◌, min, max}
use Rattle.gc_instrument.specs.declared.face.Face.{Face}
use Rattle.gc_instrument.specs.declared.face.Face.TheVariants.{Normal, Turned}
use Rattle.gc_scenes.specs.Shifting.{shifted}
use Rattle.gc_scenes.specs.declared.ways.Ways.{Ways}
use Rattle.gc_scenes.specs.declared.ways.Way.{Way}
use Rattle.gc_catalogue.specs.declared.answer.Answer.TheVariants as answer
use Rattle.gc_catalogue.specs.declared.call.Call.TheVariants as call
use Rattle.gc_scenes.specs.declared.ways.Way.TheVariants as way

-- none of the ways
abbrev pub no_ways : Ways
no_ways = record { faces = false; aims = false; takes = false; values = false; clock = false }

-- these ways with this one as well, or all of them for `way.Real`
abbrev pub with_way : Way → Ways → Ways
with_way way.Faces w = record w { faces = true }
with_way way.Aims w = record w { aims = true }
with_way way.Takes w = record w { takes = true }
with_way way.Values w = record w { values = true }
with_way way.Clock w = record w { clock = true }
with_way way.Real w = record { faces = true; aims = true; takes = true; values = true; clock = true }

-- Two faces.

-- whether a vertical angle is one of face II: above half a turn
abbrev pub is_in_face_two : Decimal → Bool
is_in_face_two v = int_lt half_turn (units v)

-- the face of the telescope at this vertical angle
abbrev pub face_at : Decimal → Face
face_at v = if is_in_face_two v then Turned else Normal

-- the horizontal direction h in the other face: h - P if h is at least P, and else h + P, where P is half a turn; or h itself, if
-- that is out of a decimal's range
abbrev pub other_hz : Decimal → Decimal
other_hz h = shifted h (signed (int_le half_turn (units h)) (unsigned_abs half_turn))

-- the vertical angle v in the other face: 2P - v, where P is half a turn; or v itself, if that is out of a decimal's range
abbrev pub other_v : Decimal → Decimal
other_v v = shifted v (turn -ℤ (units v +ℤ units v))

-- the target with the angles at which the telescope points at it: those of the other face in face II (true), and else its own
abbrev pub target_in_face : (turned : Bool) → Target → Target
target_in_face true t = record { hz = other_hz t.hz; v = other_v t.v; distance = t.distance }
target_in_face false t = t

-- whether the telescope is in face II if it points `there`; false also if the instrument has no angles of face II
abbrev pub is_turned : Ways → Pointing → Bool
is_turned w there = w.faces && is_in_face_two there.v

-- Target recognition.

-- the angle between two directions with this difference, the shorter way round the circle, in units
abbrev pub on_circle : ℤ → ℕ
on_circle z = let rest = unsigned_abs z % unsigned_abs turn in min rest (unsigned_abs turn - rest)

-- how far a target is from where the telescope points, in units: the difference of the horizontal angles, the shorter way round
-- the circle, or that of the vertical ones, whichever is greater
abbrev pub apart : Pointing → Target → ℕ
apart there t = max (on_circle (units t.hz -ℤ units there.hz)) (unsigned_abs (units t.v -ℤ units there.v))

-- the window of target recognition, each way, in units: 0.0131 radians, about three quarters of a degree
abbrev pub window : ℕ
window = 13100000000000000000000

-- the target that is nearer to where the telescope points (`there`), of the one found so far and this one, and the one found so
-- far if both are equally near; if none was found so far: this one if it is within the window, and else none
abbrev pub nearer : (there : Pointing) → (found : Option Target) → Target → Option Target
nearer there None t = if nat_le (apart there t) window then Some t else None
nearer there (Some u) t = if nat_le (apart there u) (apart there t) then Some u else Some t

-- what `nearer` makes of the target found so far and these targets, one after the other
abbrev pub nearest_of : (there : Pointing) → (found : Option Target) → List Target → Option Target
nearest_of there found [] = found
nearest_of there found (t ∷ ts) = nearest_of there (nearer there found t) ts

-- the nearest target within the window, the first of several that are equally near; none if all are beyond the window
abbrev pub nearest : (there : Pointing) → List Target → Option Target
nearest there targets = nearest_of there None targets

-- Values of a reply whose return code isn't 0.

-- whether this code is a warning, with which a reply may have values: measured without all corrections (1283), or without a
-- guarantee of the accuracy (1284); angles alone (1285), without all corrections (1288), or without a guarantee (1289)
abbrev pub is_warning : ℕ → Bool
is_warning rc = (rc == 1283) || ((rc == 1284) || ((rc == 1285) || ((rc == 1288) || (rc == 1289))))

-- whether a distance is among the values of a reply with this code, where the code is a warning
abbrev pub has_distance : ℕ → Bool
has_distance rc = (rc == 1283) || (rc == 1284)

-- the answer of a call that answers angles, with those of `there` and, if the answer has a distance, this one; `Nothing` for any
-- other call
abbrev pub valued : Pointing → Call → (distance : Decimal) → Answer
valued there (call.GetAngle mode) d = answer.Angles there.hz there.v
valued there (call.SimpleMea wait mode) d = answer.Measured there.hz there.v d
valued there call.QuickDist d = answer.Measured there.hz there.v d
valued there (call.MeasDistance mode) d = answer.MeasuredMode there.hz there.v d mode
valued there other d = answer.Nothing
