use Rattle.gc_theorems.proofs.Common.{AnyState}
use Rattle.gc_theorems.proofs.Joining.{run_faithful}
use Rattle.gc_theorems.proofs.laws.runs_are_faithful.Goals as goal

pub returns : goal.returns
returns g c = λ ends kept is u x field. run_faithful ends AnyState kept is u x field
