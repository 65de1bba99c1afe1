use Rattle.gc_theorems.proofs.Common.{AnyState}
use Rattle.gc_theorems.proofs.Chains.{chains_in_order}
use Rattle.gc_theorems.proofs.damage.chains_are_executed_in_order.Goals as goal

pub returns : goal.returns
returns g c = λ ends kept is u x field. chains_in_order ends AnyState kept is x u field
