use Rattle.gc_values.proofs.ItemLaws.{item_is_value}
use Rattle.gc_values.proofs.laws.item_is_a_value.Goals as goal

pub returns : goal.returns
returns c = item_is_value
