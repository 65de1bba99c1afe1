use Rattle.gc_world.proofs.Common.{stage_parts, iff_false}
use Rattle.gc_world.proofs.Shown.{streams_restart_instrument_idle}
use Rattle.gc_world.proofs.stage.Stage.restart_instrument.Goals as goal

pub returns-else-is_quiet-clause-follows : goal.returns-else-is_quiet-clause-follows
returns-else-is_quiet-clause-follows g c =
    λ width v h. streams_restart_instrument_idle g.I.Executes.acts width (stage_parts c.args.self.now) v h (iff_false c.is_quiet.ensures c.if-is_quiet.false)
