use Rattle.gc_theorems.proofs.Common.{held_back, theirs, AnyState}
use Rattle.gc_theorems.proofs.DamagedSessions.{session_local}
use Rattle.gc_theorems.proofs.damage.sessions_with_damage_are_local.Goals as goal

pub returns : goal.returns
returns g c = λ ends kept is. session_local ends AnyState kept is theirs held_back
