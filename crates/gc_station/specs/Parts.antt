-- A run of a station as its client has it, this project's own: a part for each synchronization, with what happens while the
-- station synchronizes, then the client's steps, and which command each request is that is sent. An act is one call on the
-- link, with its result.
use Rattle.gc_station.specs.Common.{AllZip, Asked, Table, NullProc, Wanted, Step, Send, Hear, Expire, Expected, Occasion, Task, End, Answered, Unreadable, Judged, Late, Skipped, NoValue, Missed, Act, Told, Put, Cut, Gave, Silent}
use Rattle.std.specs.Prelude.{◌≡◌, ℕ, ◌&&◌, Bool, true, false, if◌then◌else◌, List, [], ◌∷◌, ◌++◌, map, Option, Some, None, slice_get, unwrap_or, filter}
use Rattle.gc_texts.specs.Prelude.{Lost}
use Rattle.gc_station.specs.declared.plan.Plan.{Plan}
use Rattle.gc_station.specs.declared.mark.Mark.{Mark}
use Rattle.gc_station.specs.declared.station.sending.Outgoing.{Outgoing}
use Rattle.gc_station.specs.declared.progress.Action.{Action}
use Rattle.gc_station.specs.Deciding.{later, has_begun}
use Rattle.gc_station.specs.Progressing.{loses_all}
use Rattle.gc_station.specs.Marks.{occasion_of}
use Rattle.gc_station.specs.Records.{Record}
use Rattle.gc_station.specs.Requests.{asked_at}
use Rattle.gc_station.specs.Model.{Model, action_at, lines_completed, is_heard, after, request_for, null_request, request_of_setup, mark_sent}
use Rattle.gc_station.specs.NextCommand.{commands_left}
use Rattle.gc_station.specs.declared.progress.Action.TheVariants as action

-- one step of a station while it synchronizes
pub data SyncStep : Type 0 where
  -- the null procedure of the first id that isn't answered is sent, whole or in part
  Asks : SyncStep
  -- a line is heard
  Hears : (line : List ℕ) → SyncStep

-- what happens from one synchronization to the next
pub record Part : Type 0 where
  -- the station's steps while it synchronizes, in order
  pub sync_steps : List SyncStep
  -- the client's steps after that, in order
  pub steps : List (Step Asked)
  -- one for each request that these steps send, in order: which command it is; `None` for a null procedure of the station's own
  pub marks : List (Option Mark)

-- the part that consists of these steps of a synchronization alone
abbrev pub only_sync_steps : List SyncStep → Part
only_sync_steps sync_steps = record { sync_steps = sync_steps; steps = []; marks = [] }

-- the part that consists of these steps of the client alone, which send nothing
abbrev pub only_steps : List (Step Asked) → Part
only_steps steps = record { sync_steps = []; steps = steps; marks = [] }

-- the part in which nothing happens
abbrev pub idle_part : Part
idle_part = only_steps []

-- one part from what happens in `p` and then in `q`
abbrev pub parts_joined : (p q : Part) → Part
parts_joined p q = record { sync_steps = p.sync_steps ++ q.sync_steps; steps = p.steps ++ q.steps; marks = p.marks ++ q.marks }

-- the part that consists of the request `x`, sent at the moment `now`
abbrev pub request_part : (now : ℕ) → Outgoing → Part
request_part now x = record { sync_steps = []; steps = Send x.command.target x.command.call (later now x.wait) ∷ []; marks = x.mark ∷ [] }

-- the part that consists of the request for the first of these commands, sent at the moment `now` with `mark`; nothing if there
-- is no command
abbrev pub first_request_part : (now : ℕ) → Mark → List Task → Part
first_request_part now mark [] = idle_part
first_request_part now mark (task ∷ others) = request_part now (request_for mark task)

-- the part of an action that writes bytes, all of them or some, if the station has the model `s`: one request for `Flush`,
-- `Prepare` and `Send`; nothing otherwise, as the line feed of `Clear` is no request
abbrev pub put_part : Plan → List Task → Model → Action → Part
put_part plan commands s action.Flush = request_part s.progress.moment.elapsed (null_request plan)
put_part plan commands s action.Prepare =
    request_part s.progress.moment.elapsed (request_of_setup plan commands s.client.next s.counts s.progress)
put_part plan commands s action.Send =
    first_request_part s.progress.moment.elapsed (mark_sent plan commands s) (commands_left commands s.progress)
put_part plan commands s _ = idle_part

-- the client's steps for `piece`, if `rest` are the bytes before it since the last line feed: if the piece is heard (`ready`),
-- the client hears the lines that it completes; otherwise there are none, as if these lines were lost on the way
abbrev pub heard_steps : (ready : Bool) (rest piece : List ℕ) → List (Step Asked)
heard_steps true rest piece = map Hear (lines_completed rest piece)
heard_steps false rest piece = []

-- the part of an act that performs `action`, once the station has synchronized; it has the model `s` before the act. A moment
-- that is read times out requests whose deadline has come, and then the piece that came with the moment is heard
abbrev pub client_part : Plan → List Task → Model → Action → Act → Part
client_part plan commands s action (Told m) = only_steps (Expire m.elapsed ∷ [])
client_part plan commands s action (Silent m) = only_steps (Expire m.elapsed ∷ [])
client_part plan commands s action (Gave piece m) = only_steps (Expire m.elapsed ∷ heard_steps (is_heard s.progress.phase) s.rest piece)
client_part plan commands s action (Put bytes) = put_part plan commands s action
client_part plan commands s action (Cut bytes count) = put_part plan commands s action
client_part plan commands s action _ = idle_part

-- the part of an act that performs `action` while the station synchronizes; it has the model `s` before the act. The null
-- procedure of the first id that isn't answered is sent, whole or in part, or the lines of a piece are heard
abbrev pub sync_part : Model → Action → Act → Part
sync_part s action.Ask (Put bytes) = only_sync_steps (Asks ∷ [])
sync_part s action.Ask (Cut bytes count) = only_sync_steps (Asks ∷ [])
sync_part s (action.Read until) (Gave piece m) = only_sync_steps (if is_heard s.progress.phase then map Hears (lines_completed s.rest piece) else [])
sync_part s action act = idle_part

-- the part of an act that performs `action`, if the station has the model `s` before it
abbrev pub part_of_act : Plan → List Task → Model → Action → Act → Part
part_of_act plan commands s action act = if has_begun s.progress then client_part plan commands s action act else sync_part s action act

-- whether a part ends with the act, if the station has the model `s` before it: after the act all outstanding requests are
-- lost, because the station resynchronizes or no act follows. An act of a synchronization ends no part, because nothing is
-- outstanding then
abbrev pub ends_part : Plan → List Task → Model → Act → Bool
ends_part plan commands s act = has_begun s.progress && loses_all (after plan commands s act).progress

-- the parts of an act and of the acts after it: `p` is what happens at the act, and `parts` are of the acts after it. If the
-- act ends a part (`ends`), `p` is a part of its own; otherwise it is the front of the first of `parts`
abbrev pub in_front : Part → (ends : Bool) → List Part → List Part
in_front p true parts = p ∷ parts
in_front p false [] = p ∷ []
in_front p false (q ∷ parts) = parts_joined p q ∷ parts

-- the parts of these acts, from the model `s` on
abbrev pub parts_of : Plan → List Task → Model → List Act → List Part
parts_of plan commands s [] = idle_part ∷ []
parts_of plan commands s (act ∷ acts) =
    in_front (part_of_act plan commands s (action_at plan s) act) (ends_part plan commands s act) (parts_of plan commands (after plan commands s act) acts)

-- a request with this mark asks for `a`: what the command of the mark asks if it is sent on the occasion of the mark; if there is
-- no mark, a null procedure
abbrev pub MarkAsks : List Task → Option Mark → Wanted Asked → Type 0
MarkAsks commands None a = a ≡ record { target = 0; call = Table NullProc }
MarkAsks commands (Some mark) a = (task : Task) × (slice_get commands mark.place ≡ Some task) × (a ≡ asked_at (occasion_of mark) task)

-- requests with these marks ask for these targets and calls, one for one
abbrev pub MarksAsk : List Task → List (Option Mark) → List (Wanted Asked) → Type 0
MarksAsk commands marks asked = AllZip (MarkAsks commands) marks asked

-- whether a command with this ending was sent
abbrev pub went_out : End → Bool
went_out (Answered quality answer line) = true
went_out (Unreadable line fault) = true
went_out (Judged judgement line) = true
went_out Late = true
went_out Lost = true
went_out Skipped = false
went_out NoValue = false
went_out Missed = false

-- those of these records whose command was sent, in order
abbrev pub sent_of : List Record → List Record
sent_of rs = filter (λ (r : Record). went_out r.end) rs

-- when the command of the record `r` was sent; 0 if it wasn't
abbrev pub sent_at : Record → ℕ
sent_at r = unwrap_or r.sent 0

-- the mark that the command of the record `r` had, if `expected` is expected of its answer
abbrev pub mark_of : Expected → Record → Mark
mark_of expected r = record { cycle = r.cycle; place = r.place; sent = sent_at r; id = r.id; expected = expected }

-- what the request of the record `r` took from the moment at which it was sent, if `expected` is what its mark had
abbrev pub occasion_in : Expected → Record → Occasion
occasion_in expected r = occasion_of (mark_of expected r)

-- the record `r` with 0 for the moment of its end
abbrev pub timeless : Record → Record
timeless r = record r { utc = 0 }
