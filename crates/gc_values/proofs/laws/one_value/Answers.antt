use Rattle.gc_values.proofs.ItemLaws.{one_value}
use Rattle.gc_values.proofs.laws.one_value.Goals as goal

pub returns : goal.returns
returns c = one_value
