-- While the instrument is busy, this project's own. A busy answer (`says_busy`) is one by which the instrument tells that it is still at
-- work on a command, whose reply may come later. So nothing is asked before the command's whole deadline has passed since that answer; and
-- then the station synchronizes, so that a reply that comes late isn't taken for another's, and does the setup anew. An act is one call on
-- the link, with its result.
use Rattle.gc_station.specs.Common.{Refused, lists_code, line_of, Task, Act, Moment}
use Rattle.std.specs.Prelude.{◌≡◌, ℕ, ◌<◌, ◌≤◌, true, false, List, [], ◌∷◌, ◌++◌, None, Some, slice_get}
use Rattle.gc_station.specs.declared.plan.Plan.{Plan}
use Rattle.gc_station.specs.declared.progress.Action.TheVariants.{Send}
use Rattle.gc_station.specs.ActKinds.{moment_in}
use Rattle.gc_station.specs.Answers.{IsWrittenAt}
use Rattle.gc_station.specs.Deciding.{has_begun, later}
use Rattle.gc_station.specs.Model.{Model, opening, action_at, after, Runs}
use Rattle.gc_station.specs.Quiet.{IsAsking, SendsRequest}
use Rattle.gc_station.specs.Records.{Record}
use Rattle.gc_station.specs.Runs.{state_after}
use Rattle.gc_station.specs.Scopes.{Scope}
use Rattle.gc_station.specs.Starts.{IsPreparedBehind}

-- the act, made after `acts`, brings a busy answer: it adds the record of a command of the list, `task`, to which a reply came in time with
-- this line; the line's communication code is 0, and its return code one by which the instrument says that it is busy, and that isn't
-- accepted
pub record BringsBusy (plan : Plan) (commands : List Task) (scope : Scope) (acts : List Act) (act : Act) : Type 0 where
  pub answer : Record
  pub written : IsWrittenAt plan commands scope acts act answer
  pub task : Task
  pub of_task : slice_get commands answer.place ≡ Some task
  pub line : List ℕ
  pub its_line : line_of answer.end ≡ Some line
  pub code : ℕ
  pub refuses : scope.reads None answer.command.call line ≡ Refused code
  pub busy : lists_code task.busy code ≡ true
  pub not_accepted : lists_code task.accepted code ≡ false

-- one of these acts reads this moment, or a later one
pub record Reaches (moment : ℕ) (acts : List Act) : Type 0 where
  pub front : List Act
  pub act : Act
  pub others : List Act
  pub order : acts ≡ front ++ act ∷ others
  pub read : Moment
  pub tells : moment_in act ≡ Some read
  pub reached : moment ≤ read.elapsed

-- the act reads the moment `m`, and between it and the sending of a request, which follows the acts `behind`, a moment was read at least
-- `wait` milliseconds after `m`
pub record WaitsFor (wait : ℕ) (act : Act) (behind : List Act) : Type 0 where
  pub m : Moment
  pub brought : moment_in act ≡ Some m
  pub waited : Reaches (later m.elapsed wait) behind

-- the station, with the model `s` before these acts, has synchronized after each of them: it doesn't resynchronize, whatever connections are
-- closed and made meanwhile
abbrev pub StaysSynchronized : Plan → List Task → Model → List Act → Type 0
StaysSynchronized plan commands s [] = Unit {0}
StaysSynchronized plan commands s (act ∷ acts) =
    (has_begun (after plan commands s act).progress ≡ true) × StaysSynchronized plan commands (after plan commands s act) acts

-- what follows a busy answer, which `act` brings
pub record NothingIsSentWhileBusy : Type 0 where
  -- a request, of a command or a null procedure, those of a synchronization too, is sent only once a moment was read at which the command's
  -- whole deadline had passed since that answer
  pub waits : (plan : Plan) (commands : List Task) (scope : Scope) (earlier behind : List Act) (act request : Act)
      → Runs plan commands (opening plan scope) (earlier ++ act ∷ (behind ++ request ∷ [])) → (brings : BringsBusy plan commands scope earlier act)
      → SendsRequest request → WaitsFor brings.task.deadline act behind
  -- where a request is sent, but for those of a synchronization, the station has resynchronized since that answer, whatever connections were
  -- closed and made
  pub renews : (plan : Plan) (commands : List Task) (scope : Scope) (earlier behind : List Act) (act : Act)
      → Runs plan commands (opening plan scope) (earlier ++ act ∷ behind) → BringsBusy plan commands scope earlier act
      → IsAsking (action_at plan (state_after plan commands scope (earlier ++ act ∷ behind)))
      → StaysSynchronized plan commands (state_after plan commands scope earlier) (act ∷ behind) → ⊥
  -- where a command of a cycle is sent, each command of the setup was sent after that answer, and answered well, on the connection of that
  -- command, and after its synchronization
  pub set_up : (plan : Plan) (commands : List Task) (scope : Scope) (earlier behind : List Act) (act : Act)
      → Runs plan commands (opening plan scope) (earlier ++ act ∷ behind) → BringsBusy plan commands scope earlier act
      → action_at plan (state_after plan commands scope (earlier ++ act ∷ behind)) ≡ Send
      → (place : ℕ) → place < plan.setup → IsPreparedBehind plan commands scope (earlier ++ act ∷ []) (earlier ++ act ∷ behind) place
