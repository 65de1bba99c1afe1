use Rattle.gc_values.proofs.ItemLaws.{one_fault}
use Rattle.gc_values.proofs.laws.one_fault.Goals as goal

pub returns : goal.returns
returns c = one_fault
