use Rattle.gc_theorems.proofs.Common.{near, theirs, AnyState}
use Rattle.gc_theorems.proofs.Sessions.{in_a_row_own}
use Rattle.gc_theorems.proofs.laws.sessions_in_a_row_are_their_own.Goals as goal

pub returns : goal.returns
returns g c = λ ends kept is. in_a_row_own ends AnyState kept is theirs near
