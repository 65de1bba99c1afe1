use Rattle.gc_theorems.proofs.Common.{AnyState}
use Rattle.gc_theorems.proofs.DamagedRuns.{run_apart}
use Rattle.gc_theorems.proofs.damage.damage_once_synchronized_is_apart.Goals as goal

pub returns : goal.returns
returns g c = λ ends kept is u x field lacks damaged. run_apart ends AnyState kept is u x field lacks damaged
