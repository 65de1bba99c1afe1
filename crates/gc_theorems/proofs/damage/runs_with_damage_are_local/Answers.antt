use Rattle.gc_theorems.proofs.Common.{AnyState}
use Rattle.gc_theorems.proofs.DamagedRuns.{run_local}
use Rattle.gc_theorems.proofs.damage.runs_with_damage_are_local.Goals as goal

pub returns : goal.returns
returns g c = λ ends kept is u x field. run_local ends AnyState kept is u x field
