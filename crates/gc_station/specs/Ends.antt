-- How a request ends that has no answer, in an operator's words, this project's own. Late: its own request was sent, then a
-- moment at or past its deadline was read, and only then a line came with its id. Lost: its own request was sent, and at the
-- act that recorded it as lost a line came with the id of a request that was put after it, or the station resynchronizes,
-- because all that is outstanding has timed out, and there is no room for another request or the cycle is overdue, or the run stopped.
-- An act is one call on the link, with its result.
use Rattle.gc_station.specs.Common.{Asked, Waits, deadlines, heard, Late, Task, Moment, Act, Told, Gave}
use Rattle.std.specs.Prelude.{◌≡◌, ◌⊎◌, ℕ, ◌<◌, ◌≤◌, List, [], ◌∷◌, ◌++◌, Some, IsSomeAnd}
use Rattle.gc_texts.specs.Prelude.{Lost}
use Rattle.gc_station.specs.declared.cause.Cause.{Cause}
use Rattle.gc_station.specs.declared.plan.Plan.{Plan}
use Rattle.gc_station.specs.declared.progress.Action.TheVariants.{Renew, Stop}
use Rattle.gc_station.specs.Answers.{IsRecordedBy, IsRepliedIn, Completes, deadline_after}
use Rattle.gc_station.specs.Quiet.{IsAsking}
use Rattle.gc_station.specs.Records.{Record}
use Rattle.gc_station.specs.Runs.{state_after}
use Rattle.gc_station.specs.ActKinds.{Puts, moment_in}
use Rattle.gc_station.specs.Marks.{commands_in}
use Rattle.gc_station.specs.Reasons.{IsOverdue, MayAskNoMore}
use Rattle.gc_station.specs.Model.{action_at, next_request_text, waiting_of, Model}
use Rattle.gc_station.specs.Scopes.{Scope}

-- the act reads a moment at or past `deadline`
abbrev pub ReadsAtOrPast : ℕ → Act → Type 0
ReadsAtOrPast deadline act = IsSomeAnd (moment_in act) (λ m. deadline ≤ m.elapsed)

-- one of `acts` reads a moment at or past `deadline`
pub record OneReadsPast (deadline : ℕ) (acts : List Act) : Type 0 where
  pub earlier : List Act
  pub telling : Act
  pub later : List Act
  pub at : acts ≡ earlier ++ telling ∷ later
  pub past : ReadsAtOrPast deadline telling

-- among `acts` a read of `line`, the reply to its request, adds the record `r`. Between the request and the read, or by the read
-- itself, a moment at or past the request's deadline is read
pub record IsLateIn (plan : Plan) (commands : List Task) (scope : Scope) (acts : List Act) (r : Record) : Type 0 where
  pub line : List ℕ
  pub reply : IsRepliedIn plan commands scope acts r line
  pub too_late : OneReadsPast (deadline_after plan commands scope reply.its.before) (reply.its.between ++ Gave reply.piece reply.moment ∷ [])

-- between `request`, which comes after the acts `before`, and `act` another request was sent (`other`); that other one is still
-- outstanding, and `act` is a read that completes a line (`line`) with its id
pub record IsOvertaken (plan : Plan) (commands : List Task) (scope : Scope) (before : List Act) (request : Act) (between : List Act) (act : Act) : Type 0 where
  pub first : List Act
  pub other : Act
  pub next : List Act
  pub order : between ≡ first ++ other ∷ next
  pub asks : IsAsking (action_at plan (state_after plan commands scope (before ++ request ∷ first)))
  pub call : Asked
  pub put : Puts (next_request_text (state_after plan commands scope (before ++ request ∷ first)).client call) other
  pub waits : Waits (state_after plan commands scope (before ++ request ∷ between)).client (state_after plan commands scope (before ++ request ∷ first)).client.next
  pub piece : List ℕ
  pub moment : Moment
  pub reads : act ≡ Gave piece moment
  pub line : List ℕ
  pub came : Completes (state_after plan commands scope (before ++ request ∷ between)).rest piece line
  pub id : heard line ≡ Some (state_after plan commands scope (before ++ request ∷ first)).client.next

-- why a station that has the model `s` resynchronizes: the outstanding requests, and those that the last line ended that ended any, are
-- together seven or more; or a line raised a doubt; or commands are outstanding, and the cycle is overdue
abbrev pub MayResynchronize : Plan → Model → Type 0
MayResynchronize plan s = MayAskNoMore s.progress (waiting_of s) ⊎ (IsOverdue plan s.progress (waiting_of s) × (0 < commands_in s.marks))

-- the act, before which a station has the model `s`, resynchronizes it: the act reads the clock; there is no room for another
-- request, or the cycle is overdue; and all that is outstanding has timed out
pub record Resynchronizes (plan : Plan) (s : Model) (act : Act) : Type 0 where
  pub renews : action_at plan s ≡ Renew
  pub moment : Moment
  pub told : act ≡ Told moment
  pub why : MayResynchronize plan s
  pub given_up : deadlines s.client.waiting ≡ []

-- the act `act`, made after `acts`, is the last one: no act comes after it (`behind`), and the run stops
pub record IsLast (plan : Plan) (commands : List Task) (scope : Scope) (acts : List Act) (act : Act) (behind : List Act) : Type 0 where
  pub none : behind ≡ []
  pub why : Cause
  pub stops : action_at plan (state_after plan commands scope (acts ++ act ∷ [])) ≡ Stop why

-- among `acts` the act `act` adds the record `r`, after the one that writes its request (`its`). It brings a line with the id of
-- a request that was sent after that one, or the station resynchronizes at it, or it is the last act of the run
pub record IsLostIn (plan : Plan) (commands : List Task) (scope : Scope) (acts : List Act) (r : Record) : Type 0 where
  pub act : Act
  pub its : IsRecordedBy plan commands scope acts r act
  pub shown : IsOvertaken plan commands scope its.before its.request its.between act
      ⊎ (Resynchronizes plan (state_after plan commands scope (its.before ++ its.request ∷ its.between)) act
      ⊎ IsLast plan commands scope (its.before ++ its.request ∷ its.between) act its.behind)

-- if the record `r` says that its command is late, `IsLateIn` holds: the request was sent, and its reply came too late
abbrev pub LateIsJustified : Plan → List Task → Scope → List Act → Record → Type 0
LateIsJustified plan commands scope acts r = r.end ≡ Late → IsLateIn plan commands scope acts r

-- if the record `r` says that its command is lost, `IsLostIn` holds: the request was sent, and no reply to it can be taken any
-- more
abbrev pub LostIsJustified : Plan → List Task → Scope → List Act → Record → Type 0
LostIsJustified plan commands scope acts r = r.end ≡ Lost → IsLostIn plan commands scope acts r
