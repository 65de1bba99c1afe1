use Rattle.gc_texts.proofs.ValueForms.{no_value_counted}
use Rattle.gc_texts.proofs.value_item.count_values.Goals as goal

pub loop-item-init : goal.loop-item-init
loop-item-init c = no_value_counted c.args.params.now c.at-items.result c.at-items.ensures c.requires
