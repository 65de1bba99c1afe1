-- Laws of schedules, scenes and verdicts: both the laws and what they speak of are this project's own.
use Rattle.gc_filters.specs.Common.{Frame, Event, State}
use Rattle.std.specs.Prelude.{◌≡◌, ℕ, List}
use Rattle.gc_filters.specs.Scenes.{IsScene, IsOverfullScene}
use Rattle.gc_filters.specs.Schedule.{IsSchedule}
use Rattle.gc_filters.specs.Verdicts.{IsVerdict, AreVerdictLines}
use Rattle.gc_filters.specs.declared.verdict.Verdict.{Verdict}

-- a text is the schedule of one list of events at most
abbrev pub OneSchedule : Type 0
OneSchedule = (text : List ℕ) (xs ys : List Event) → IsSchedule text xs → IsSchedule text ys → xs ≡ ys

-- a text sets up one instrument at most, and none where it has too many targets
pub record OneScene : Type 0 where
  pub state : (text : List ℕ) (s t : State) → IsScene text s → IsScene text t → s ≡ t
  pub full : (text : List ℕ) (s : State) → IsScene text s → IsOverfullScene text → ⊥

-- a frame has one verdict at most, and a stream one list of verdicts' lines
pub record OneVerdict : Type 0 where
  pub frame : (seen : Frame) (v w : Verdict) → IsVerdict seen v → IsVerdict seen w → v ≡ w
  pub stream : (bytes : List ℕ) (xs ys : List (List ℕ)) → AreVerdictLines bytes xs → AreVerdictLines bytes ys → xs ≡ ys
