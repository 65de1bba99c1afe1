use Rattle.gc_texts.proofs.Items.{counted_from_none}
use Rattle.gc_texts.proofs.item.counters_in.Goals as goal

pub loop-item-init : goal.loop-item-init
loop-item-init c = counted_from_none c.args.text.now c.at-items.result c.at-items.ensures c.requires
