use Rattle.gc_theorems.proofs.Common.{AnyState}
use Rattle.gc_theorems.proofs.BegunRuns.{next_may_begin}
use Rattle.gc_theorems.proofs.laws.few_killed_may_begin.Goals as goal

pub returns : goal.returns
returns g c = λ ends kept is. next_may_begin ends AnyState kept is
