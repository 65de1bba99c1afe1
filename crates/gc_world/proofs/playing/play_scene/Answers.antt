use Rattle.gc_world.proofs.Common.{scene_streamed, stage_parts}
use Rattle.gc_world.proofs.Turns.{report_at_end}
use Rattle.gc_world.proofs.playing.play_scene.Goals as goal

pub returns-clause-played : goal.returns-clause-played
returns-clause-played c =
    (report_at_end c.args.width (scene_streamed c.args.width c.args.instrument c.args.events.now) (stage_parts c.in_ok-stage.stage) c.ended.result.0 c.in_ok-stage.ensures.shows
    c.ended.ensures.report).reports
