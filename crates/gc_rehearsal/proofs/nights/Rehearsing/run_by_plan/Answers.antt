use Rattle.gc_rehearsal.proofs.Running.{run_is_one}
use Rattle.gc_rehearsal.proofs.nights.Rehearsing.run_by_plan.Goals as goal

pub returns : goal.returns
returns g c = run_is_one _ _ _ _ c.commands_are_askable.ensures _ _ _ _ c.run_station.result c.run_station.ensures.ran.1.2
