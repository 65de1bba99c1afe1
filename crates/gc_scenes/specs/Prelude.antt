-- The names that crates above cite, passed on from one place. Declares nothing.
pub use Rattle.gc_scenes.specs.Laws.{still}
pub use Rattle.gc_scenes.specs.Params.{scripted_params}
pub use Rattle.gc_scenes.specs.Rules.{fault_of, scripted_reply}
pub use Rattle.gc_scenes.specs.SceneExecution.{Played, counting, played_call, played_raw, scripted_played, unless_faulted, unless_faulted_raw}
unfoldable pub use Rattle.gc_scenes.specs.SceneExecution.{plays}
pub use Rattle.gc_scenes.specs.SceneReplying.{IsHanded, IsPlayed, again_or_played, answers, names_call, names_none, played_line, played_or_refused, resent_line}
unfoldable pub use Rattle.gc_scenes.specs.SceneReplying.{handed_call, handed_raw}
pub use Rattle.gc_scenes.specs.SceneServing.{IsSceneServing, PlaysFrame}
pub use Rattle.gc_scenes.specs.SceneState.{SceneState, at_moment, scene_restarted}
pub use Rattle.gc_scenes.specs.Slow.{HearsFrame, HearsLine, HearsSometime, SlowState, slow_restarted}
pub use Rattle.gc_scenes.specs.Ways.{no_ways, with_way}
