-- The setup, this project's own: the first commands of the list are sent once on each connection, and once after each
-- synchronization, before any command of a cycle. Each is sent only after the good answer of the one before it. An act is one
-- call on the link, with its result.
use Rattle.gc_station.specs.Common.{Task, Act}
use Rattle.std.specs.Prelude.{◌≡◌, ◌⊎◌, ℕ, ◌+◌, ◌<◌, ◌≤◌, true, nat_eq, List, [], ◌∷◌, ◌++◌, length, drop, map, Option, Some, None, filter}
use Rattle.gc_station.specs.declared.cause.Cause.{Cause}
use Rattle.gc_station.specs.declared.mark.Mark.{Mark}
use Rattle.gc_station.specs.declared.plan.Plan.{Plan}
use Rattle.gc_station.specs.declared.progress.Action.{Action}
use Rattle.gc_station.specs.declared.progress.Action.TheVariants.{Prepare, Send, Stop}
use Rattle.gc_station.specs.Deciding.{has_begun, later}
use Rattle.gc_station.specs.Marks.{is_well}
use Rattle.gc_station.specs.Model.{Model, opening, action_at, after}
use Rattle.gc_station.specs.NextCommand.{mark_setup}
use Rattle.gc_station.specs.Quiet.{KeepsOpen}
use Rattle.gc_station.specs.Records.{Record}
use Rattle.gc_station.specs.Runs.{state_after, OfAnyActs, OfEachRun, WhereNext}
use Rattle.gc_station.specs.Scopes.{Scope}

-- Which commands of the setup were sent.

-- a command that was sent, or recorded without being sent
pub record Dispatch : Type 0 where
  -- its cycle, counted from 1; 0 for a command of the setup
  pub cycle : ℕ
  -- its place in the station's list, counted from 0
  pub place : ℕ
  -- its attempt: of its chain, or for a command of the setup, of the setup
  pub attempt : ℕ
  -- the moment read last before it was sent, by the clock of time stamps; `None` if it wasn't sent
  pub sent : Option ℕ

-- the dispatch of the command that a record is of
abbrev pub dispatch_of_record : Record → Dispatch
dispatch_of_record r = record { cycle = r.cycle; place = r.place; attempt = r.turn.attempt; sent = r.sent }

-- the dispatch of the command that a mark is of
abbrev pub dispatch_of_mark : Mark → Dispatch
dispatch_of_mark mark = record { cycle = mark.cycle; place = mark.place; attempt = mark.expected.turn.attempt; sent = Some mark.sent }

-- the dispatches of the commands that are outstanding, by their marks; a null procedure has none
abbrev pub dispatches_of : List (Option Mark) → List Dispatch
dispatches_of [] = []
dispatches_of (None ∷ marks) = dispatches_of marks
dispatches_of (Some mark ∷ marks) = dispatch_of_mark mark ∷ dispatches_of marks

-- the dispatches of the model `s`: those of its records, and after them those of the outstanding commands
abbrev pub dispatch_row : Model → List Dispatch
dispatch_row s = map dispatch_of_record s.records ++ dispatches_of s.marks

-- those of these dispatches that are of commands of the setup, which has cycle 0
abbrev pub of_setup : List Dispatch → List Dispatch
of_setup xs = filter (λ (x : Dispatch). nat_eq x.cycle 0) xs

-- the dispatch of the first of these commands, which is sent with `mark`; none if there is no command
abbrev pub sent_first : Mark → List Task → List Dispatch
sent_first mark [] = []
sent_first mark (task ∷ others) = dispatch_of_mark mark ∷ []

-- the dispatch of the command of the setup that an act of this action sends, if the station has the model `s` before it; none
-- if the action is another one
abbrev pub setup_sent_at : Action → List Task → Model → List Dispatch
setup_sent_at Prepare commands s = sent_first (mark_setup commands s.progress) (drop s.progress.prepared commands)
setup_sent_at _ commands s = []

-- the dispatches of the commands of the setup that these acts send, in order, from the model `s` on
abbrev pub setup_sent_by : Plan → List Task → Model → List Act → List Dispatch
setup_sent_by plan commands s [] = []
setup_sent_by plan commands s (act ∷ acts) = setup_sent_at (action_at plan s) commands s ++ setup_sent_by plan commands (after plan commands s act) acts

-- after `acts`, which begin a run: each command of the setup that was sent, in order, has one record or, after the records, is
-- outstanding (`each`); and if the run stopped, none is outstanding (`settled`)
pub record EachSetUpOnce (plan : Plan) (commands : List Task) (scope : Scope) (acts : List Act) : Type 0 where
  pub each : of_setup (dispatch_row (state_after plan commands scope acts)) ≡ setup_sent_by plan commands (opening plan scope) acts
  pub settled : (cause : Cause) → action_at plan (state_after plan commands scope acts) ≡ Stop cause
      → of_setup (map dispatch_of_record (state_after plan commands scope acts).records) ≡ setup_sent_by plan commands (opening plan scope) acts

-- Attempts.

-- `y` is the command of the setup that follows `x`: the next one in the same attempt, or the first one in the next attempt.
-- Attempts count up to 2^64 - 1
abbrev pub IsNextAfter : (x y : Dispatch) → Type 0
IsNextAfter x y = ((y.attempt ≡ x.attempt) × (y.place ≡ x.place + 1)) ⊎ ((y.attempt ≡ later x.attempt 1) × (y.place ≡ 0))

-- each of these commands of the setup follows the one before it (`IsNextAfter`), and the first one follows `x`
abbrev pub GoOn : Dispatch → List Dispatch → Type 0
GoOn x [] = Unit {0}
GoOn x (y ∷ ys) = IsNextAfter x y × GoOn y ys

-- the first of these commands of the setup is the first one of attempt 1, and each further one follows the one before it
-- (`IsNextAfter`)
abbrev pub AreInOrder : List Dispatch → Type 0
AreInOrder [] = Unit {0}
AreInOrder (x ∷ xs) = (x.attempt ≡ 1) × (x.place ≡ 0) × GoOn x xs

-- the commands of the setup that a run sends are in order, as `AreInOrder` says, if the list has at least `plan.setup` commands
abbrev pub SetUpsGoOn : Type 0
SetUpsGoOn = OfAnyActs (λ plan commands scope acts. plan.setup ≤ length commands → AreInOrder (setup_sent_by plan commands (opening plan scope) acts))

-- Before a command is sent.

-- none of these acts closes the connection, and the station has synchronized after each; the station has the model `s` before
-- them
abbrev pub StaysUp : Plan → List Task → Model → List Act → Type 0
StaysUp plan commands s [] = Unit {0}
StaysUp plan commands s (act ∷ acts) =
    KeepsOpen act × (has_begun (after plan commands s act).progress ≡ true) × StaysUp plan commands (after plan commands s act) acts

-- among `acts` the act `request` sent the command of the setup at `place`, and it was answered well. Since then no connection
-- was closed, and the station didn't resynchronize (`stays`). Its record `answer`, which was written since, has its cycle,
-- place and attempt, and the moment at which it was sent
pub record IsPrepared (plan : Plan) (commands : List Task) (scope : Scope) (acts : List Act) (place : ℕ) : Type 0 where
  pub before : List Act
  pub request : Act
  pub behind : List Act
  pub order : acts ≡ before ++ request ∷ behind
  pub sends : action_at plan (state_after plan commands scope before) ≡ Prepare
  pub its_place : (state_after plan commands scope before).progress.prepared ≡ place
  pub stays : StaysUp plan commands (state_after plan commands scope before) (request ∷ behind)
  pub earlier : List Record
  pub answer : Record
  pub later : List Record
  pub written : (state_after plan commands scope acts).records ≡ (state_after plan commands scope before).records ++ (earlier ++ answer ∷ later)
  pub own : dispatch_of_record answer ≡ dispatch_of_mark (mark_setup commands (state_after plan commands scope before).progress)
  pub well : is_well answer.end ≡ true

-- after these acts each of the first `n` commands of the setup is `IsPrepared`
abbrev pub ArePrepared : Plan → List Task → Scope → List Act → ℕ → Type 0
ArePrepared plan commands scope acts n = (place : ℕ) → place < n → IsPrepared plan commands scope acts place

-- a command of a cycle is sent only once each command of the setup was answered well, on its connection, and after its
-- synchronization
abbrev pub NoneBeforeTheSetUp : Type 0
NoneBeforeTheSetUp = WhereNext Send (λ plan commands scope acts. ArePrepared plan commands scope acts plan.setup)

-- a command of the setup is sent only once each one before it was answered well, on its connection, and after its
-- synchronization, if the list has at least `plan.setup` commands
abbrev pub SetUpInOrder : Type 0
SetUpInOrder = OfEachRun (λ plan commands scope acts.
    let s = state_after plan commands scope acts in
    plan.setup ≤ length commands → action_at plan s ≡ Prepare → ArePrepared plan commands scope acts s.progress.prepared)
