use Rattle.gc_theorems.proofs.DamagedRun.{damaged_stretch}
use Rattle.gc_theorems.proofs.damage.some_stretch_is_damaged.Goals as goal

pub returns : goal.returns
returns c = damaged_stretch
