use Rattle.gc_values.proofs.ItemLaws.{item_has_no_fault}
use Rattle.gc_values.proofs.laws.item_has_no_fault.Goals as goal

pub returns : goal.returns
returns c = item_has_no_fault
