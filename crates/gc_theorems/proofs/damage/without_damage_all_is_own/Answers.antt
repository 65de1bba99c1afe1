use Rattle.gc_theorems.proofs.Common.{AnyState}
use Rattle.gc_theorems.proofs.WithoutDamage.{own_without_damage}
use Rattle.gc_theorems.proofs.damage.without_damage_all_is_own.Goals as goal

pub returns : goal.returns
returns g c = λ ends kept is width narrow u clean ms p t. own_without_damage width narrow ends AnyState kept is u clean ms p t
