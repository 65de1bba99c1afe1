-- What holds of every run on the instrument of a scene, whatever its rules say, beside the laws that gc_world has of runs between
-- any two ends: laws of this project's own definitions.
use Rattle.gc_world.specs.Common.{Call, WINDOW, Settlement, Answered, SceneState}
use Rattle.std.specs.Prelude.{◌≡◌, ℕ, ◌≤◌, true, false, List, map, Some, slice_get}
use Rattle.gc_world.specs.SceneRuns.{scene_ends, scene_played}
use Rattle.gc_world.specs.declared.event.Event.{Event}
use Rattle.gc_world.specs.Record.{HasExecutions, IsReplyAt}
use Rattle.gc_world.specs.World.{Wire}

-- with a window of at most seven, if settlement m is an answer, its line is among those that the instrument made for request m
abbrev pub BooksOwnLines : Type 0
BooksOwnLines =
    (width : ℕ) → width ≤ WINDOW → (opening : SceneState) (events : List Event) (m : ℕ) (s : Settlement Call) (line : List ℕ) →
    slice_get (scene_played width opening events).wire.settled m ≡ Some s → s.outcome ≡ Answered line →
    (j : ℕ) × (slice_get (scene_played width opening events).wire.made j ≡ Some (record { number = m; line = line }))

-- the executions of a run are recorded (`HasExecutions`): each line that the instrument made is the reply of an execution of its
-- request, and no request is executed twice. And where settlement m is an answer, its line is what the instrument replied when it
-- executed request m, in the state that it had then (`IsReplyAt`)
pub record BooksOnExecuting (opening : SceneState) (w : Wire SceneState) : Type 0 where
  pub executions : HasExecutions scene_ends opening w
  pub own :
      (m : ℕ) (s : Settlement Call) (line : List ℕ) → slice_get w.settled m ≡ Some s → s.outcome ≡ Answered line →
      IsReplyAt scene_ends w executions.before (record { number = m; line = line })

-- with a window of at most seven, on a scene whose instrument stores its last reply for a repeat: each answer that is booked was
-- made on executing that very request (`BooksOnExecuting`). A request that a fault of the scene answers counts as executed
abbrev pub BooksExecutions : Type 0
BooksExecutions =
    (width : ℕ) → width ≤ WINDOW → (opening : SceneState) (events : List Event) → opening.repeats ≡ true →
    BooksOnExecuting opening (scene_played width opening events).wire

-- on a scene whose instrument stores no reply, each line that it made is the reply of an execution of the line's request: the
-- requests of the lines, in order, are those executed. A request that comes twice is executed twice
abbrev pub ExecutesEachTime : Type 0
ExecutesEachTime =
    (width : ℕ) (opening : SceneState) (events : List Event) → opening.repeats ≡ false →
    map (λ entry. entry.number) (scene_played width opening events).wire.made ≡ (scene_played width opening events).wire.executed
