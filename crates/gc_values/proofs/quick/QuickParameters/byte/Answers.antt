use Rattle.gc_values.specs.declared.value.Value.TheVariants as value
use Rattle.gc_values.proofs.PlainLists.{takes_read_value}
use Rattle.gc_values.proofs.quick.QuickParameters.byte.Goals as goal

pub returns-clause-reads : goal.returns-clause-reads
returns-clause-reads c = takes_read_value value.Byte c.item.result.now c.read_byte-read.result c.read_or.result _ _ _ c.item.ensures c.read_byte-read.ensures.value c.read_or.ensures
