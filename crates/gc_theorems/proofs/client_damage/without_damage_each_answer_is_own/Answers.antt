use Rattle.gc_theorems.proofs.ClientUndamaged.{own_without_damage}
use Rattle.gc_theorems.proofs.client_damage.without_damage_each_answer_is_own.Goals as goal

pub returns : goal.returns
returns g c = own_without_damage
