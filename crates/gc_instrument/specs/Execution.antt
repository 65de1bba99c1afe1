-- What each call does to an instrument, and what the instrument answers: this project's own, after the manual's procedures.
use Rattle.std.specs.Prelude.{◌≡◌, ℕ, ℤ, pos, ◌&&◌, ◌||◌, Bool, true, false, Option, Some, None, int_le, int_lt, nat_le, unsigned_abs, if◌then◌else◌}
use Rattle.std.specs.Ordering.{int_eq}
use Rattle.std.specs.Option.{option_map}
use Rattle.gc_values.specs.Prelude.{is_up_to}
use Rattle.gc_values.specs.declared.decimal.Decimal.{Decimal}
use Rattle.gc_catalogue.specs.declared.call.Call.{Call}
use Rattle.gc_catalogue.specs.declared.call.DateTime.{DateTime}
use Rattle.gc_catalogue.specs.declared.answer.Answer.{Answer}
use Rattle.gc_instrument.specs.Faces.{turned, face_number}
use Rattle.gc_instrument.specs.Numbers.{temperature}
use Rattle.gc_instrument.specs.State.{State}
use Rattle.gc_instrument.specs.Targets.{first_at, first_within}
use Rattle.gc_instrument.specs.declared.target.Target.{Target}
use Rattle.gc_catalogue.specs.declared.call.Call.TheVariants as call
use Rattle.gc_catalogue.specs.declared.answer.Answer.TheVariants as answer

-- the outcome of a call: the state after it, the return code and the answer
pub record Executed : Type 0 where
  pub state : State
  pub rc : ℕ
  pub answer : Answer

-- the outcome of a call that succeeded: code 0, with this state and this answer
abbrev pub done : State → Answer → Executed
done s a = record { state = s; rc = 0; answer = a }

-- the outcome of a call that was refused: this code, with this state and no answer
abbrev pub refused : State → (code : ℕ) → Executed
refused s code = record { state = s; rc = code; answer = answer.Nothing }

-- the outcome of a call that sets values: the new state if these are allowed (true), else the old state and code 2, the manual's
-- "invalid parameter"
abbrev pub set_if : (allowed : Bool) (old new : State) → Executed
set_if true old new = done new answer.Nothing
set_if false old new = refused old 2

-- the outcome of a call that asks for the distance: code 0 and the answer made of it, or code 1285 alone if there is no distance
abbrev pub distance_outcome : State → (Decimal → Answer) → Option Decimal → Executed
distance_outcome s answer_with (Some d) = done s (answer_with d)
distance_outcome s answer_with None = refused s 1285

-- the outcome of asking for the angles and the distance of the state `s`, with the state `after` after it: code 0 and these
-- values, or code 1285 alone if `s` has no distance
abbrev pub measured_outcome : (after s : State) → Executed
measured_outcome after s = distance_outcome after (λ d. answer.Measured s.pointing.hz s.pointing.v d) s.distance

-- whether a precision can be this number of places: 0 to 15
abbrev pub is_precision : ℤ → Bool
is_precision n = is_up_to (pos 15) n

-- whether a prism type can have this number: a Long that is at least 0
abbrev pub is_prism : ℤ → Bool
is_prism n = is_up_to (pos 2147483647) n

-- whether the clock can be set to this date and time: each value is in its range, with 31 days in every month
abbrev pub is_date : DateTime → Bool
is_date d =
    int_le (pos 1) d.year && int_le d.year (pos 9999) && nat_le 1 d.month && nat_le d.month 12 && nat_le 1 d.day && nat_le d.day 31
    && nat_le d.hour 23 && nat_le d.minute 59 && nat_le d.second 59

-- the state after a measurement: the distance is that of the first target exactly where the telescope points, or none if none is
-- there
abbrev pub measured : State → State
measured s = record s { distance = option_map (λ t. t.distance) (first_at s.pointing s.scene) }

-- the state without a distance
abbrev pub unmeasured : State → State
unmeasured s = record s { distance = None }

-- the state in which the telescope points in the direction of hz and v, without a distance
abbrev pub pointed : State → (hz v : Decimal) → State
pointed s hz v = record s { pointing = record { hz = hz; v = v }; distance = None }

-- the state in which the telescope is turned over, without a distance
abbrev pub turned_over : State → State
turned_over s = record s { face = turned s.face; distance = None }

-- the outcome of TMC_DoMeasure with this command: 0 does nothing, 1 measures, 3 clears the distance, and any other is refused
-- with code 2
abbrev pub commanded : State → (command : ℤ) → Executed
commanded s command =
    if int_eq command (pos 0) then done s answer.Nothing
    else (if int_eq command (pos 1) then done (measured s) answer.Nothing
    else (if int_eq command (pos 3) then done (unmeasured s) answer.Nothing else refused s 2))

-- the outcome of a search for a target: code 0, pointing at the target that was found, without a distance; or code 8710, with the
-- state as it is, if none was found
abbrev pub adjusted : State → Option Target → Executed
adjusted s (Some t) = done (pointed s t.hz t.v) answer.Nothing
adjusted s None = refused s 8710

-- the outcome of a search within the areas: code 2 if one of the areas is below zero, else that of `adjusted` with the first
-- target within them
abbrev pub searched : State → (area_hz area_v : Decimal) → Executed
searched s area_hz area_v =
    if int_lt area_hz.digits (pos 0) || int_lt area_v.digits (pos 0) then refused s 2
    else adjusted s (first_within s.pointing area_hz area_v s.scene)

-- the execution table: the outcome of carrying out each call in this state
unfoldable pub exec : State → Call → Executed
exec s call.NullProc = done s answer.Nothing
exec s (call.SetPrecision n) = set_if (is_precision n) s (record s { precision = unsigned_abs n })
exec s call.GetPrecision = done s (answer.Short (pos s.precision))
exec s call.ComVersion = done s (answer.Version (pos 1) (pos 0) (pos 0))
exec s call.InstrumentNo = done s (answer.Long s.serial)
exec s call.InstrumentName = done s (answer.Name s.name)
exec s (call.SetDate d) = set_if (is_date d) s (record s { date = d })
exec s call.GetDate = done s (answer.Date s.date)
exec s call.IntTemp = done s (answer.Temperature temperature)
exec s call.CsvVersion = done s (answer.Version (pos 1) (pos 2) (pos 0))
exec s (call.DoMeasure command mode) = commanded s command
exec s call.GetStation = done s (answer.Place s.station)
exec s (call.SetStation p) = done (record s { station = p }) answer.Nothing
exec s call.GetHeight = done s (answer.Height s.height)
exec s (call.SetHeight h) = done (record s { height = h }) answer.Nothing
exec s call.GetFace = done s (answer.Long (face_number s.face))
exec s (call.GetAngle mode) = done s (answer.Angles s.pointing.hz s.pointing.v)
exec s (call.SimpleMea wait mode) = measured_outcome s s
exec s call.QuickDist = measured_outcome (measured s) (measured s)
exec s (call.SetPrism n) = set_if (is_prism n) s (record s { prism = n })
exec s call.GetPrism = done s (answer.Long s.prism)
exec s (call.MeasDistance mode) =
    distance_outcome (measured s) (λ d. answer.MeasuredMode s.pointing.hz s.pointing.v d mode) (measured s).distance
exec s (call.Position hz v pos_mode atr_mode dummy) = done (pointed s hz v) answer.Nothing
exec s (call.ChangeFace pos_mode atr_mode dummy) = done (turned_over s) answer.Nothing
exec s (call.FineAdjust area_hz area_v dummy) = searched s area_hz area_v

-- the outcome `x` has the state `after`, this return code and this answer
abbrev pub Gives : Executed → (after : State) → (code : ℕ) → Answer → Type 0
Gives x after code answered = x ≡ record { state = after; rc = code; answer = answered }

-- carrying out the call `asked` leads from the state `before` to `after`, with this return code and answer
abbrev pub Executes : (before : State) → Call → (after : State) → (code : ℕ) → Answer → Type 0
Executes before asked after code answered = Gives (exec before asked) after code answered
