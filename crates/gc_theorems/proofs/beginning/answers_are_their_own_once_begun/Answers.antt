use Rattle.gc_theorems.proofs.Common.{AnyState}
use Rattle.gc_theorems.proofs.BegunFaithful.{faithful}
use Rattle.gc_theorems.proofs.beginning.answers_are_their_own_once_begun.Goals as goal

pub returns : goal.returns
returns g c = λ ends kept is width narrow u clean ms possible. faithful ends AnyState kept is width narrow u clean ms possible
