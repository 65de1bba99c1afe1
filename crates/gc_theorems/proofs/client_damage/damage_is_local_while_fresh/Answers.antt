use Rattle.gc_theorems.proofs.ClientLocal.{local_while_fresh}
use Rattle.gc_theorems.proofs.client_damage.damage_is_local_while_fresh.Goals as goal

pub returns : goal.returns
returns g c = local_while_fresh
