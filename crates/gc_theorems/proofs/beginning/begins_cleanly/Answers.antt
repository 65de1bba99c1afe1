use Rattle.gc_theorems.proofs.Common.{AnyState}
use Rattle.gc_theorems.proofs.BeginJoin.{begins_cleanly}
use Rattle.gc_theorems.proofs.beginning.begins_cleanly.Goals as goal

pub returns : goal.returns
returns g c = λ ends kept is u ts lines possible none done. begins_cleanly ends AnyState kept is u ts lines possible none done
