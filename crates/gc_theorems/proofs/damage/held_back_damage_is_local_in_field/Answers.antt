use Rattle.gc_theorems.proofs.Common.{AnyState}
use Rattle.gc_theorems.proofs.HoldingBack.{held_back_is_local_in_field}
use Rattle.gc_theorems.proofs.damage.held_back_damage_is_local_in_field.Goals as goal

pub returns : goal.returns
returns g c = λ ends kept is width narrow u clean ms p. held_back_is_local_in_field width narrow ends AnyState kept is u clean ms p
