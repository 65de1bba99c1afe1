-- Where an answer comes from, in an operator's words, this project's own: its own request was sent, and the line came after it,
-- with its id, before a moment at or past its deadline was read. An act is one call on the link, with its result.
use Rattle.gc_station.specs.Common.{AllByRecursion, heard, line_of, Task, Moment, Act, Gave}
use Rattle.std.specs.Prelude.{◌≡◌, ℕ, ◌<◌, List, [], ◌∷◌, ◌++◌, drop, Some, IfSome}
use Rattle.gc_station.specs.declared.plan.Plan.{Plan}
use Rattle.gc_station.specs.Deciding.{later}
use Rattle.gc_station.specs.Records.{Record}
use Rattle.gc_station.specs.Runs.{state_after}
use Rattle.gc_station.specs.ActKinds.{Puts, moment_in}
use Rattle.gc_station.specs.Model.{IsSending, cycle_to_send, place_to_send, next_request_text, lines_completed, Model}
use Rattle.gc_station.specs.Scopes.{Scope}

-- the act reads no moment, or one before `deadline`
abbrev pub ReadsBefore : ℕ → Act → Type 0
ReadsBefore deadline act = IfSome (moment_in act) (λ m. m.elapsed < deadline)

-- for how many milliseconds the request of the first of these commands waits; 0 if there is no command
abbrev pub first_deadline : List Task → ℕ
first_deadline [] = 0
first_deadline (task ∷ others) = task.deadline

-- the deadline of the request that is sent directly after `acts`, if a command of the text is sent then
abbrev pub deadline_after : Plan → List Task → Scope → List Act → ℕ
deadline_after plan commands scope acts =
    let s = state_after plan commands scope acts in
    later s.progress.moment.elapsed (first_deadline (drop (place_to_send plan commands s) commands))

-- the act, before which a station has the model `s`, writes the request of the record `r`, all of it or a part: a command is
-- sent next; it has the cycle and the place of `r`; the moment read last is `r.sent`; the id is that of `r`; and the bytes are
-- the line of the call of `r`
pub record IsOwnRequest (plan : Plan) (commands : List Task) (s : Model) (act : Act) (r : Record) : Type 0 where
  pub sends : IsSending plan s
  pub cycle : r.cycle ≡ cycle_to_send plan s
  pub place : r.place ≡ place_to_send plan commands s
  pub sent : r.sent ≡ Some s.progress.moment.utc
  pub id : r.id ≡ s.client.next
  pub put : Puts (next_request_text s.client r.command.call) act

-- the act `act`, made after `acts`, adds the record `r`; it may add other records before it (`earlier`) and after it (`later`)
pub record IsWrittenAt (plan : Plan) (commands : List Task) (scope : Scope) (acts : List Act) (act : Act) (r : Record) : Type 0 where
  pub earlier : List Record
  pub later : List Record
  pub written : (state_after plan commands scope (acts ++ act ∷ [])).records ≡ (state_after plan commands scope acts).records ++ (earlier ++ r ∷ later)

-- among `acts` the act `request` writes the request of the record `r`, and the later act `act` adds `r`. `before`, `between` and
-- `behind` are the acts before, between and after the two
pub record IsRecordedBy (plan : Plan) (commands : List Task) (scope : Scope) (acts : List Act) (r : Record) (act : Act) : Type 0 where
  pub before : List Act
  pub request : Act
  pub between : List Act
  pub behind : List Act
  pub order : acts ≡ before ++ request ∷ (between ++ act ∷ behind)
  pub own : IsOwnRequest plan commands (state_after plan commands scope before) request r
  pub written : IsWrittenAt plan commands scope (before ++ request ∷ between) act r

-- a read that gives `piece` completes `line`, after the lines `front`; `rest` are the bytes before the read since the last line
-- feed
pub record Completes (rest piece line : List ℕ) : Type 0 where
  pub front : List (List ℕ)
  pub others : List (List ℕ)
  pub is : lines_completed rest piece ≡ front ++ line ∷ others

-- among `acts` a read that gave `piece` adds the record `r`, after the act that writes its request (`its`). The piece completes
-- `line`, which has the request's id
pub record IsRepliedIn (plan : Plan) (commands : List Task) (scope : Scope) (acts : List Act) (r : Record) (line : List ℕ) : Type 0 where
  pub piece : List ℕ
  pub moment : Moment
  pub its : IsRecordedBy plan commands scope acts r (Gave piece moment)
  pub came : Completes (state_after plan commands scope (its.before ++ its.request ∷ its.between)).rest piece line
  pub id : heard line ≡ Some (state_after plan commands scope its.before).client.next

-- among `acts` a read of `line`, the reply to its request, adds the record `r`. Neither the acts between the request and the read
-- (`waits`) nor the read (`in_time`) read a moment at or past the request's deadline
pub record IsAnsweredIn (plan : Plan) (commands : List Task) (scope : Scope) (acts : List Act) (r : Record) (line : List ℕ) : Type 0 where
  pub reply : IsRepliedIn plan commands scope acts r line
  pub waits : AllByRecursion (ReadsBefore (deadline_after plan commands scope reply.its.before)) reply.its.between
  pub in_time : reply.moment.elapsed < deadline_after plan commands scope reply.its.before

-- if a reply in time ended the command of the record `r` (answered, unreadable or off target), the line of the reply (`line_of`)
-- came as `IsAnsweredIn` says
abbrev pub AnswerIsJustified : Plan → List Task → Scope → List Act → Record → Type 0
AnswerIsJustified plan commands scope acts r = (line : List ℕ) → line_of r.end ≡ Some line → IsAnsweredIn plan commands scope acts r line
