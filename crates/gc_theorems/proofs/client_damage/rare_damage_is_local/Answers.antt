use Rattle.gc_theorems.proofs.Rare.{rare_is_local}
use Rattle.gc_theorems.proofs.client_damage.rare_damage_is_local.Goals as goal

pub returns : goal.returns
returns g c = rare_is_local
