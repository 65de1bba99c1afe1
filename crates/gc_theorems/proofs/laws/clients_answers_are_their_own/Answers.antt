use Rattle.gc_theorems.proofs.Common.{AnyState}
use Rattle.gc_theorems.proofs.Parting.{each_is_own_if_safe}
use Rattle.gc_theorems.proofs.laws.clients_answers_are_their_own.Goals as goal

pub returns : goal.returns
returns g c = λ ends kept is. each_is_own_if_safe ends AnyState kept is
