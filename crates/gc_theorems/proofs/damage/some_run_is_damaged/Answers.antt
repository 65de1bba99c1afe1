use Rattle.gc_theorems.proofs.DamagedRun.{damaged_run}
use Rattle.gc_theorems.proofs.damage.some_run_is_damaged.Goals as goal

pub returns : goal.returns
returns c = damaged_run
