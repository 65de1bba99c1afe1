use Rattle.gc_theorems.proofs.Common.{AnyState}
use Rattle.gc_theorems.proofs.Rarely.{rare_is_local_in_field}
use Rattle.gc_theorems.proofs.damage.rare_damage_is_local_in_field.Goals as goal

pub returns : goal.returns
returns g c = λ ends kept is width k narrow u clean ms p. rare_is_local_in_field width k narrow ends AnyState kept is u clean ms p
