use Rattle.gc_theorems.proofs.Common.{AnyState}
use Rattle.gc_theorems.proofs.UndamagedRuns.{is_instance}
use Rattle.gc_theorems.proofs.damage.undamaged_runs_are_instances.Goals as goal

pub returns : goal.returns
returns g c = λ ends kept is u x field own. is_instance ends AnyState kept is u x field own
