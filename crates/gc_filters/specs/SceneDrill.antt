-- What a schedule that is played on the instrument of a scene with rules writes: this project's own. The lines are those of
-- `Drill.antt`, over the run of another world.
use Rattle.gc_filters.specs.Common.{SceneState, scene_played, Event}
use Rattle.std.specs.Prelude.{ℕ, Bool, List}
use Rattle.gc_filters.specs.Drill.{wire_text}

-- what is written of events that are played on a scene's instrument with this opening state, with a window of this width
unfoldable pub scene_drill_text : (opening : SceneState) → (width : ℕ) → List Event → (totals : Bool) → List ℕ
scene_drill_text opening width events totals = wire_text (scene_played width opening events).wire totals
