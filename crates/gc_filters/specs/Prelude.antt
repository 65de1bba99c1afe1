-- The names that crates above cite, passed on from one place. Declares nothing.
pub use Rattle.gc_filters.specs.Checking.{IsChecking}
pub use Rattle.gc_filters.specs.Drill.{DrillsAs, IsDrill, PlaysAll, is_read_whole}
unfoldable pub use Rattle.gc_filters.specs.Drill.{drill_text_on}
pub use Rattle.gc_filters.specs.LogChecking.{IsCheckingLog}
unfoldable pub use Rattle.gc_filters.specs.SceneDrill.{scene_drill_text}
pub use Rattle.gc_filters.specs.SceneLines.{IsLineOf, takes_all}
pub use Rattle.gc_filters.specs.SceneTroubles.{scene_trouble_line}
pub use Rattle.gc_filters.specs.Scenes.{IsTimedScene, OpensPlain, OpensRuled, OpensTimed, SceneFault, SetsUp}
