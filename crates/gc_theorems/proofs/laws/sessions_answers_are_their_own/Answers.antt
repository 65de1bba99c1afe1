use Rattle.gc_theorems.proofs.Common.{near, theirs, AnyState}
use Rattle.gc_theorems.proofs.Sessions.{session_is_own}
use Rattle.gc_theorems.proofs.laws.sessions_answers_are_their_own.Goals as goal

pub returns : goal.returns
returns g c = λ ends kept is. session_is_own ends AnyState kept is theirs near
