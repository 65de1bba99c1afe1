use Rattle.gc_theorems.proofs.Common.{AnyState}
use Rattle.gc_theorems.proofs.Own.{own_or_damaged}
use Rattle.gc_theorems.proofs.damage.answers_are_own_or_damaged.Goals as goal

pub returns : goal.returns
returns g c = λ ends kept is width narrow u clean ms p. own_or_damaged width narrow ends AnyState kept is u clean ms p
