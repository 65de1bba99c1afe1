use Rattle.gc_values.specs.declared.value.Value.TheVariants as value
use Rattle.gc_values.proofs.PlainLists.{takes_read_value}
use Rattle.gc_values.proofs.quick.Quick.take_as_double.Goals as goal

pub returns : goal.returns
returns c = takes_read_value value.Double c.item.result.now c.read-read.result c.read_or.result _ _ _ c.item.ensures c.read-read.ensures.value c.read_or.ensures
