use Rattle.gc_theorems.proofs.Common.{AnyState}
use Rattle.gc_theorems.proofs.BegunRuns.{runs_are_their_own}
use Rattle.gc_theorems.proofs.beginning.runs_are_their_own.Goals as goal

pub returns : goal.returns
returns g c = λ ends kept is width narrow u lines row rs runs few. runs_are_their_own ends AnyState kept is width narrow u lines row rs runs few
