use Rattle.gc_theorems.proofs.Common.{chains_stay, marks_go_on, records_stay, AnyState}
use Rattle.gc_theorems.proofs.Chained.{chains_executed}
use Rattle.gc_theorems.proofs.laws.chains_are_executed.Goals as goal

pub returns : goal.returns
returns g c = λ ends kept is u x field. chains_executed ends AnyState kept is chains_stay marks_go_on records_stay x.plan x.commands x.scope x.acts u x.runs field
