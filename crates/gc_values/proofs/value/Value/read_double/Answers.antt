use Rattle.gc_values.proofs.ItemLaws.{double_fault}
use Rattle.gc_values.proofs.value.Value.read_double.Goals as goal

pub returns-clause-fault : goal.returns-clause-fault
returns-clause-fault c = double_fault c.read.result c.args.item.now c.read.ensures.faults (λ h. c.read.ensures.range.0 h) (λ h. c.read.ensures.spelling.0 h)
