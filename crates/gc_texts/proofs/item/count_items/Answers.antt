use Rattle.gc_texts.proofs.Items.{all_left}
use Rattle.gc_texts.proofs.item.count_items.Goals as goal

pub loop-items-init : goal.loop-items-init
loop-items-init c = all_left c.args.text.now c.at-items.result c.at-items.ensures c.requires
