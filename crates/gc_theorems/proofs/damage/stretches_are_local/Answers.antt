use Rattle.gc_theorems.proofs.Common.{AnyState}
use Rattle.gc_theorems.proofs.Stretch.{stretch_is_local}
use Rattle.gc_theorems.proofs.damage.stretches_are_local.Goals as goal

pub returns : goal.returns
returns g c = λ ends kept is width narrow u ts ms well p o q. stretch_is_local width narrow ends AnyState kept is u ts ms well p o q
