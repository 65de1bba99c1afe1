-- Where an answer was measured, this project's own: whatever the line, the instrument or its operator did, an answered command
-- of a target with a known place was measured there, as far as its answer has a direction, or a distance and the place one. An act
-- is one call on the link, with its result.
use Rattle.gc_station.specs.Common.{Answer, Value, Refused, Asked, lists_code, Answered, Judged, IsThere, IsAway, as_zero, Codes, OffTarget, Quality, Task}
use Rattle.std.specs.Prelude.{◌≡◌, ◌⊎◌, ℕ, true, List, Some, slice_get}
use Rattle.gc_texts.specs.declared.near.Near.{Near}
use Rattle.gc_station.specs.Records.{Record}
use Rattle.gc_station.specs.Runs.{OfAnyRecord}
use Rattle.gc_station.specs.Saying.{Says}
use Rattle.gc_station.specs.Scopes.{Reads}

-- if the record `r` is answered, with an answer, and the text says where its command's target is, the answer was measured there: its
-- direction, if it has one, is near that place, and its distance, if it has one and the text says the target's, within the tolerance of it
abbrev pub IsAtItsTarget : List Task → Record → Type 0
IsAtItsTarget commands r =
    (task : Task) (near : Near) (quality : Quality) (answer : Answer) (line : List ℕ) → slice_get commands r.place ≡ Some task → task.near ≡ Some near
    → r.end ≡ Answered quality (Some answer) line → IsThere near answer

-- `line` says `answer` of `call`: it has both codes 0; or it has an accepted return code, and says the answer once 0 replaces
-- that code
abbrev pub HasAnswer : Says → Codes → Asked → List ℕ → Answer → Type 0
HasAnswer says accepted call line answer =
    (says call line ≡ Value answer)
    ⊎ ((code : ℕ) × (says call line ≡ Refused code) × (lists_code accepted code ≡ true) × (says call (as_zero line) ≡ Value answer))

-- `line` says an answer of `call` (`HasAnswer`), by the form of `task` if it has one, the text says where the target of `task` is
-- (`known`), and the answer was measured away from there: it has a direction that isn't near that place, or a distance that isn't within
-- the tolerance of the target's (`away`)
pub record WasMeasuredOffTarget (reads : Reads) (task : Task) (call : Asked) (line : List ℕ) : Type 0 where
  pub answer : Answer
  pub near : Near
  pub says : HasAnswer (reads task.form) task.accepted call line answer
  pub known : task.near ≡ Some near
  pub away : IsAway near answer

-- if the record `r` ended as off target, its answer was measured elsewhere than the target of its command is
abbrev pub OffTargetIsJustified : Reads → List Task → Record → Type 0
OffTargetIsJustified reads commands r =
    (task : Task) (line : List ℕ) → slice_get commands r.place ≡ Some task → r.end ≡ Judged OffTarget line
    → WasMeasuredOffTarget reads task r.command.call line

-- after any acts, `IsAtItsTarget` and `OffTargetIsJustified` hold of each record
abbrev pub AnswersAreAtTheirTargets : Type 0
AnswersAreAtTheirTargets = OfAnyRecord (λ commands scope r. IsAtItsTarget commands r × OffTargetIsJustified scope.reads commands r)
