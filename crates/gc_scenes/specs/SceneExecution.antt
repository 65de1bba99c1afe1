-- What a call does to the instrument of a scene: the execution table over the targets that aren't hidden, with the instrument's
-- ways of real instruments, and then the scene's rules. This project's own. `rpc` is a procedure's number, `rc` a return code.
use Rattle.gc_scenes.specs.Common.{int_eq, zero, Decimal, answer_params, Answer, Call, DateTime, Executed, Gives, first_at, Pointing, Target}
use Rattle.std.specs.Prelude.{ℕ, pos, ◌==◌, ◌&&◌, ◌||◌, Bool, true, false, List, [], Option, Some, None, unwrap_or, if◌then◌else◌}
use Rattle.std.specs.Option.{option_map}
use Rattle.gc_scenes.specs.Acting.{acted}
use Rattle.gc_scenes.specs.Clocks.{shown_at}
use Rattle.gc_scenes.specs.Params.{scripted_params}
use Rattle.gc_scenes.specs.Rules.{seen, drifted, one_more, fault_of, counted, scripted_reply, noisy, noise_after}
use Rattle.gc_scenes.specs.SceneState.{SceneState, seeing}
use Rattle.gc_scenes.specs.Ways.{is_turned, is_warning, has_distance, valued}
use Rattle.gc_scenes.specs.declared.clock.Clock.{Clock}
use Rattle.gc_scenes.specs.declared.rules.Scripted.{Scripted}
use Rattle.gc_scenes.specs.declared.rules.Sight.{Sight}
use Rattle.gc_catalogue.specs.declared.answer.Answer.TheVariants as answer
use Rattle.gc_catalogue.specs.declared.call.Call.TheVariants as call

-- whether the call measures a distance; TMC_GetSimpleMea doesn't: it answers the one that was measured last
abbrev pub is_measurement : Call → Bool
is_measurement (call.DoMeasure command mode) = int_eq command (pos 1)
is_measurement call.QuickDist = true
is_measurement (call.MeasDistance mode) = true
is_measurement other = false

-- whether the call is a search: AUT_FineAdjust is one, and, if the instrument aims (true), so is a positioning with target
-- recognition
abbrev pub is_search : (aims : Bool) → Call → Bool
is_search aims (call.FineAdjust area_hz area_v dummy) = true
is_search aims (call.Position hz v pos_mode atr_mode dummy) = aims && int_eq atr_mode (pos 1)
is_search aims other = false

-- the number of looks after this call: measurements and searches are counted, up to the greatest number of 32 bits
abbrev pub look_of : (aims : Bool) (looks : ℕ) → Call → ℕ
look_of aims looks asked = if is_measurement asked || is_search aims asked then one_more looks else looks

-- where the telescope points when the call looks for a target: at the angles of a positioning, and else `there`
abbrev pub heading : Pointing → Call → Pointing
heading there (call.Position hz v pos_mode atr_mode dummy) = record { hz = hz; v = v }
heading there other = there

-- whether the telescope is in face II when the call looks for a target; false also if the instrument has no angles of face II
abbrev pub is_turned_for : SceneState → Call → Bool
is_turned_for s asked = is_turned s.ways (heading s.base.pointing asked)

-- how the telescope meets targets at this call. The number of the look is the count of looks after the call, so a call that is no
-- look has that of the last one, or 0 before the first. The telescope is where it points before the call, and in the face in
-- which the call looks for a target
abbrev pub sight_at : SceneState → Call → Sight
sight_at s asked = record { turned = is_turned_for s asked; look = look_of s.ways.aims s.looks asked; there = s.base.pointing }

-- the targets that aren't hidden at this call, each with the angles at which the telescope points at it
abbrev pub seen_by : SceneState → Call → List Target
seen_by s asked = seen (sight_at s asked) s.prisms

-- what the instrument's clock shows at the state's moment. `None`: no clock runs
abbrev pub clock_shows : SceneState → Option DateTime
clock_shows s = option_map (shown_at s.moment) s.clock

-- the outcome of the call with the instrument's ways, over the targets that aren't hidden in the look of the call
abbrev pub outcome : SceneState → Call → Executed
outcome s asked = acted s.ways (clock_shows s) (seeing (seen_by s asked) s.base) asked

-- the outcome `x` has this return code and this answer
abbrev pub HasCodeAndAnswer : Executed → (code : ℕ) → Answer → Type 0
HasCodeAndAnswer x code answered = Gives x x.state code answered

-- the clock after a call at this moment that had this return code: if the instrument has a clock that runs (true), a call that
-- sets the date, and isn't refused, starts it from that date; else it stays as it was
abbrev pub clock_after : (runs : Bool) (moment : ℕ) → Call → (rc : ℕ) → Option Clock → Option Clock
clock_after false moment asked rc c = c
clock_after true moment (call.SetDate d) rc c = if rc == 0 then Some (record { set = d; at = moment }) else c
clock_after true moment other rc c = c

-- what the instrument does with a request that isn't a repeat: the state after it, and the return code and the parameters of the
-- reply
pub record Played : Type 0 where
  pub state : SceneState
  pub rc : ℕ
  pub params : List ℕ

-- the state once a call with this sight and this return code was noted: after a measurement the targets may have moved; a look is
-- counted if the call was a measurement or a search; a clock may have been set
abbrev pub noting : Sight → Call → (rc : ℕ) → SceneState → SceneState
noting sight asked rc s = record s {
  prisms = if is_measurement asked then drifted sight s.prisms else s.prisms;
  looks = sight.look;
  clock = clock_after s.ways.clock s.moment asked rc s.clock;
}

-- the state after a call with this outcome: the call is noted (`noting`); the execution table's part is that of the outcome, but
-- for its targets, which stay; the noise's generator has advanced if the answer has a measured distance
abbrev pub after_call : SceneState → Call → Executed → SceneState
after_call s asked x = record (noting (sight_at s asked) asked x.rc s) {
  base = seeing s.base.scene x.state;
  noise = noise_after s.noise x.answer;
}

-- the answer that a reply with this code has: the given one; or, if the code is a warning and the instrument has values with
-- warnings (true), the angles, without noise, and this distance if the call answers one, or `Nothing` for a call that answers no
-- angles
abbrev pub answer_or_values : (values : Bool) → Pointing → Call → (rc : ℕ) → (distance : Decimal) → (given : Answer) → Answer
answer_or_values values there asked rc distance given = if values && is_warning rc then valued there asked distance else given

-- the answer that the reply to an executed call has: its own, or with a warning values with a distance of 0 (`answer_or_values`)
abbrev pub replied_answer : (values : Bool) → Pointing → Call → (rc : ℕ) → Answer → Answer
replied_answer values there asked rc answered = answer_or_values values there asked rc zero answered

-- what the instrument does with a call that has this outcome: the reply has its answer with the noise, or that of a warning
-- (`replied_answer`), each double rounded to the precision after the call
abbrev pub played_of : SceneState → Call → Executed → Played
played_of s asked x = record {
  state = after_call s asked x;
  rc = x.rc;
  params = answer_params x.state.precision (replied_answer s.ways.values x.state.pointing asked x.rc (noisy s.noise x.answer));
}

-- what the instrument does with a call that no fault answers
unfoldable pub plays : SceneState → Call → Played
plays s asked = played_of s asked (outcome s asked)

-- the state after one more request of this procedure: the faults have counted it
abbrev pub counting : (rpc : ℕ) → SceneState → SceneState
counting rpc s = record s { faults = counted rpc s.faults }

-- the distance that the call would answer: for TMC_GetSimpleMea the one that was measured last, for other calls that of the
-- target which they would measure; none if there is none
abbrev pub known_distance : SceneState → Call → Option Decimal
known_distance s (call.SimpleMea wait mode) = s.base.distance
known_distance s asked = option_map (λ t. t.distance) (first_at s.base.pointing (seen_by s asked))

-- the distance in the reply to a call that a fault answers with this code: that of `known_distance`, if replies with the code
-- have a distance and one is known, and else 0
abbrev pub distance_in_warning : SceneState → Call → (code : ℕ) → Decimal
distance_in_warning s asked code = if has_distance code then unwrap_or (known_distance s asked) zero else zero

-- a request that a fault answers with this code: nothing is executed, and the reply has no values
abbrev pub faulted_raw : SceneState → (code : ℕ) → Played
faulted_raw s code = record { state = s; rc = code; params = [] }

-- a call that a fault answers with this code: nothing is executed, and the reply has values only with a warning
-- (`answer_or_values`)
abbrev pub faulted_call : SceneState → Call → (code : ℕ) → Played
faulted_call s asked code = record {
  state = s;
  rc = code;
  params = answer_params s.base.precision
      (answer_or_values s.ways.values s.base.pointing asked code (distance_in_warning s asked code) answer.Nothing);
}

-- what the instrument does with a call that a fault answers with this code, or that no fault answers (`None`)
abbrev pub unless_faulted : SceneState → Call → (code : Option ℕ) → Played
unless_faulted s asked (Some code) = faulted_call s asked code
unless_faulted s asked None = plays s asked

-- what the instrument does with a call of the procedure with this number, where the request isn't a repeat: the faults count the
-- request, and the first that was due at it answers it, if one was
abbrev pub played_call : SceneState → (rpc : ℕ) → Call → Played
played_call s rpc asked = unless_faulted (counting rpc s) asked (fault_of rpc s.faults)

-- a request of a procedure that isn't in the table and gets this reply: nothing is executed
abbrev pub scripted_played : SceneState → Scripted → Played
scripted_played s a = record { state = s; rc = a.rc; params = scripted_params a.with }

-- what the instrument does with a request of a procedure that isn't in the table: a fault answers it with this code, or none does
-- (`None`), and then the scene's reply answers it, if there is one
abbrev pub unless_faulted_raw : SceneState → (rpc : ℕ) → (code : Option ℕ) → Option Played
unless_faulted_raw s rpc (Some code) = Some (faulted_raw s code)
unless_faulted_raw s rpc None = option_map (scripted_played s) (scripted_reply rpc s.answers)

-- what the instrument does with a request that isn't a repeat, of a procedure that isn't in the table: the faults count the
-- request, and the first that was due at it answers it, if one was, and else the scene's reply, if there is one. `None`: nothing
-- answers the request
abbrev pub played_raw : SceneState → (rpc : ℕ) → Option Played
played_raw s rpc = unless_faulted_raw (counting rpc s) rpc (fault_of rpc s.faults)
