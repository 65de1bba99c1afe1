use Rattle.gc_theorems.proofs.Common.{AnyState}
use Rattle.gc_theorems.proofs.Faithful.{faithful}
use Rattle.gc_theorems.proofs.laws.answers_are_their_own.Goals as goal

pub returns : goal.returns
returns g c = λ ends kept is width narrow state good ms field. faithful ends AnyState kept is width narrow state good ms field.possible field.table field.alone
