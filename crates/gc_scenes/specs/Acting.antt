-- What a call does to the instrument of a scene with its ways of real instruments, over the targets of a state. Where no way
-- changes a call's outcome, it is that of the execution table. This project's own, from memory.
use Rattle.gc_scenes.specs.Common.{int_eq, Decimal, Call, DateTime, Executed, exec, done, measured_outcome, adjusted, pointed, unmeasured, State}
use Rattle.std.specs.Prelude.{pos, ◌&&◌, Bool, true, false, Option, Some, None, if◌then◌else◌}
use Rattle.gc_scenes.specs.Ways.{nearest, other_hz, other_v, face_at}
use Rattle.gc_scenes.specs.declared.ways.Ways.{Ways}
use Rattle.gc_catalogue.specs.declared.answer.Answer.TheVariants as answer
use Rattle.gc_catalogue.specs.declared.call.Call.TheVariants as call

-- the outcome of asking for the date: the date that a running clock shows, or that of the state if no clock runs (`None`)
abbrev pub dated : (now : Option DateTime) → State → Executed
dated (Some d) s = done s (answer.Date d)
dated None s = done s (answer.Date s.date)

-- the outcome of a positioning with target recognition at these angles: that of a search (`adjusted`), with the telescope at the
-- angles and the nearest target within the window round them
abbrev pub aimed : State → (hz v : Decimal) → Executed
aimed s hz v = adjusted (pointed s hz v) (nearest (record { hz = hz; v = v }) s.scene)

-- the state in which the telescope points at the other face's angles, without a distance
abbrev pub pointed_over : State → State
pointed_over s = pointed s (other_hz s.pointing.hz) (other_v s.pointing.v)

-- the outcome of the call with these ways, but for the face: that of the execution table, except that with `aims` a positioning
-- with target recognition (mode 1) aims (`aimed`), with `faces` a face change turns to the other face's angles, with `takes`
-- TMC_GetSimpleMea clears the distance that it answers, and CSV_GetDateTime answers what a running clock shows (`now`)
abbrev pub acted_faceless : Ways → (now : Option DateTime) → State → Call → Executed
acted_faceless w now s (call.Position hz v pos_mode atr_mode dummy) =
    if w.aims && int_eq atr_mode (pos 1) then aimed s hz v
    else exec s (call.Position hz v pos_mode atr_mode dummy)
acted_faceless w now s (call.ChangeFace pos_mode atr_mode dummy) =
    if w.faces then done (pointed_over s) answer.Nothing
    else exec s (call.ChangeFace pos_mode atr_mode dummy)
acted_faceless w now s (call.SimpleMea wait mode) =
    if w.takes then measured_outcome (unmeasured s) s
    else exec s (call.SimpleMea wait mode)
acted_faceless w now s call.GetDate = dated now s
acted_faceless w now s other = exec s other

-- the state with the face that its vertical angle belongs to, if the instrument has both faces' angles (true), and else the state
-- as it is
abbrev pub faced : (faces : Bool) → State → State
faced true s = record s { face = face_at s.pointing.v }
faced false s = s

-- the outcome of the call with these ways, and with the face that belongs to the vertical angle after it (`faced`). `now` is what
-- a running clock shows
abbrev pub acted : Ways → (now : Option DateTime) → State → Call → Executed
acted w now s asked = let x = acted_faceless w now s asked in record x { state = faced w.faces x.state }

-- whether no way and no running clock can change the call's outcome, apart from the face that `faced` sets: `false` for
-- AUT_MakePositioning, AUT_ChangeFace, TMC_GetSimpleMea and CSV_GetDateTime, `true` for every other call
abbrev pub is_unchanged_by_ways : Call → Bool
is_unchanged_by_ways (call.Position hz v pos_mode atr_mode dummy) = false
is_unchanged_by_ways (call.ChangeFace pos_mode atr_mode dummy) = false
is_unchanged_by_ways (call.SimpleMea wait mode) = false
is_unchanged_by_ways call.GetDate = false
is_unchanged_by_ways asked = true
