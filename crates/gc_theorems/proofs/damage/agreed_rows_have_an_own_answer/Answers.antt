use Rattle.gc_theorems.proofs.Common.{AnyState}
use Rattle.gc_theorems.proofs.Agreed.{agreed_own}
use Rattle.gc_theorems.proofs.damage.agreed_rows_have_an_own_answer.Goals as goal

pub returns : goal.returns
returns g c = λ ends kept is u x field. agreed_own ends AnyState kept is u x field
