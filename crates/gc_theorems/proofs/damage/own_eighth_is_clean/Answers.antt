use Rattle.gc_theorems.proofs.Common.{AnyState}
use Rattle.gc_theorems.proofs.Synchronizing.{own_eighth_is_clean}
use Rattle.gc_theorems.proofs.damage.own_eighth_is_clean.Goals as goal

pub returns : goal.returns
returns g c = λ ends kept is u ts well p o. own_eighth_is_clean ends AnyState kept is u ts well p o
