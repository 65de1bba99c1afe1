use Rattle.gc_theorems.proofs.Instruments.{keeps_none}
use Rattle.gc_theorems.proofs.laws.keeping_nothing_suffices.Goals as goal

pub returns : goal.returns
returns g c = keeps_none _
