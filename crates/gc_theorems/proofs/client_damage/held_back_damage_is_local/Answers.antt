use Rattle.gc_theorems.proofs.HeldBack.{held_back_is_local}
use Rattle.gc_theorems.proofs.client_damage.held_back_damage_is_local.Goals as goal

pub returns : goal.returns
returns g c = held_back_is_local
