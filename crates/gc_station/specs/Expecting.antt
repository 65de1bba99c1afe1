-- Expectations, this project's own: which values a text expects of an answer, and what a station does if they are other ones. An answer
-- that isn't as expected shows that the instrument isn't as the text takes it to be. So the setup is sent anew. An act is one call on the
-- link, with its result.
use Rattle.gc_station.specs.Common.{Judged, line_of, meets, Unexpected, Task, Act}
use Rattle.std.specs.Prelude.{◌≡◌, ℕ, ◌<◌, Bool, true, false, List, [], ◌∷◌, ◌++◌, Some}
use Rattle.gc_station.specs.declared.plan.Plan.{Plan}
use Rattle.gc_station.specs.declared.progress.Action.TheVariants.{Send}
use Rattle.gc_station.specs.Answers.{IsWrittenAt, IsRecordedBy}
use Rattle.gc_station.specs.Chains.{IsChained, IsLinked}
use Rattle.gc_station.specs.Counters.{count_at}
use Rattle.gc_station.specs.Marks.{is_well}
use Rattle.gc_station.specs.Model.{opening, action_at, Runs}
use Rattle.gc_station.specs.NextCommand.{expected_at}
use Rattle.gc_station.specs.Quiet.{IsAsking}
use Rattle.gc_station.specs.Records.{Record}
use Rattle.gc_station.specs.Runs.{state_after, OfEachRecord, WhereNext}
use Rattle.gc_station.specs.Scopes.{Scope}
use Rattle.gc_station.specs.Setups.{IsPrepared, StaysUp}
use Rattle.gc_station.specs.Starts.{IsPreparedBehind}

-- the record `r` is of a reply in time, with this line, to its own request, which was sent among `acts` (`its`). `met` says whether the
-- values of the line are as the text expects them of the command at the record's place in the list `commands`, with the number that the
-- station kept of its counter when it sent the request
pub record IsCompared (plan : Plan) (commands : List Task) (scope : Scope) (acts : List Act) (r : Record) (met : Bool) : Type 0 where
  pub line : List ℕ
  pub its_line : line_of r.end ≡ Some line
  pub act : Act
  pub its : IsRecordedBy plan commands scope acts r act
  pub compared : meets (expected_at commands r.place).expects (count_at (state_after plan commands scope its.before).counts (expected_at commands r.place).counter) line ≡ met

-- if the record `r` was answered well, the values of its line are as the text expects them
abbrev pub IsAsExpected : Plan → List Task → Scope → List Act → Record → Type 0
IsAsExpected plan commands scope acts r = is_well r.end ≡ true → IsCompared plan commands scope acts r true

-- if the record `r` ended as unexpected, they aren't
abbrev pub IsNotAsExpected : Plan → List Task → Scope → List Act → Record → Type 0
IsNotAsExpected plan commands scope acts r = (line : List ℕ) → r.end ≡ Judged Unexpected line → IsCompared plan commands scope acts r false

-- the record `r` is as the text expects it, if it was answered well, and isn't, if it ended as unexpected
abbrev pub IsByExpectation : Plan → List Task → Scope → List Act → Record → Type 0
IsByExpectation plan commands scope acts r = IsAsExpected plan commands scope acts r × IsNotAsExpected plan commands scope acts r

-- after each run, `IsByExpectation` holds of each record
abbrev pub AnswersAreAsExpected : Type 0
AnswersAreAsExpected = OfEachRecord IsByExpectation

-- after `acts` the command of the setup at `place` is prepared (`IsPrepared`), and the values of its answer are as the text expects them
pub record IsPreparedAsExpected (plan : Plan) (commands : List Task) (scope : Scope) (acts : List Act) (place : ℕ) : Type 0 where
  pub prepared : IsPrepared plan commands scope acts place
  pub of_its_place : prepared.answer.place ≡ place
  pub as_expected : IsCompared plan commands scope acts prepared.answer true

-- where a command of a cycle is sent, each command of the setup is prepared as the text expects it
abbrev pub TheSetUpIsAsExpected : Type 0
TheSetUpIsAsExpected = WhereNext Send (λ plan commands scope acts. (place : ℕ) → place < plan.setup → IsPreparedAsExpected plan commands scope acts place)

-- after `acts` the command before the cycle's next one was answered well (`IsLinked`), and the values of its answer are as the text expects
-- them
pub record IsLinkedAsExpected (plan : Plan) (commands : List Task) (scope : Scope) (acts : List Act) : Type 0 where
  pub linked : IsLinked plan commands scope acts
  pub as_expected : IsCompared plan commands scope acts linked.answer true

-- where a command is sent that goes on with a chain, the one before it was answered as the text expects it
abbrev pub ChainsAreAsExpected : Type 0
ChainsAreAsExpected = WhereNext Send (λ plan commands scope acts.
    IsChained plan commands (state_after plan commands scope acts).progress → IsLinkedAsExpected plan commands scope acts)

-- the act, made after `acts`, brings an answer that ends a command as unexpected: it adds the record of that command
pub record BringsUnexpected (plan : Plan) (commands : List Task) (scope : Scope) (acts : List Act) (act : Act) : Type 0 where
  pub answer : Record
  pub line : List ℕ
  pub written : IsWrittenAt plan commands scope acts act answer
  pub unexpected : answer.end ≡ Judged Unexpected line

-- `Holds` is true of each act of a run that brings an unexpected answer, of the acts before it, and of those behind it
abbrev pub OfEachUnexpected : (Plan → List Task → Scope → (earlier : List Act) → Act → (behind : List Act) → Type 0) → Type 0
OfEachUnexpected Holds =
    (plan : Plan) (commands : List Task) (scope : Scope) (earlier behind : List Act) (act : Act) → Runs plan commands (opening plan scope) (earlier ++ act ∷ behind)
    → BringsUnexpected plan commands scope earlier act → Holds plan commands scope earlier act behind

-- what follows an unexpected answer
pub record RenewsAfterAnUnexpectedAnswer : Type 0 where
  -- where a command of a cycle is sent, each command of the setup was sent after that answer, and answered well, on the connection of that
  -- command, and after its synchronization
  pub set_up : OfEachUnexpected (λ plan commands scope earlier act behind.
      action_at plan (state_after plan commands scope (earlier ++ act ∷ behind)) ≡ Send
      → (place : ℕ) → place < plan.setup → IsPreparedBehind plan commands scope (earlier ++ act ∷ []) (earlier ++ act ∷ behind) place)
  -- where a request is sent, of a command or a null procedure, but for those of a synchronization: since that answer a connection was
  -- closed, or the station resynchronized
  pub requests : OfEachUnexpected (λ plan commands scope earlier act behind.
      IsAsking (action_at plan (state_after plan commands scope (earlier ++ act ∷ behind)))
      → StaysUp plan commands (state_after plan commands scope earlier) (act ∷ behind) → ⊥)
