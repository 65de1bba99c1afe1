use Rattle.gc_texts.proofs.Items.{none_passed}
use Rattle.gc_texts.proofs.item.no_item_in.Goals as goal

pub loop-item-init : goal.loop-item-init
loop-item-init c = none_passed c.args.text.now c.at-items.result c.at-items.ensures c.requires
