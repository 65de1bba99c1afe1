use Rattle.gc_values.proofs.Common.{rules}
use Rattle.gc_values.proofs.PlainLists.{takes_read_value}
use Rattle.gc_values.specs.declared.value.Value.TheVariants as value
use Rattle.gc_values.proofs.quick.Quick.take_as_long.Goals as goal

pub returns : goal.returns
returns c = λ vs left.
    let read = takes_read_value value.Long c.item.result.now c.read_long-read.result c.read_or.result _ _ _ c.item.ensures c.read_long-read.ensures.value c.read_or.ensures vs left in
    search rules
