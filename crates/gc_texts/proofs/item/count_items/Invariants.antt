use Rattle.gc_texts.proofs.Common.{length}
use Rattle.gc_texts.proofs.Items.{AreCounted}
use Rattle.gc_texts.proofs.item.count_items.Given as goal

-- some items were taken, and counted
abbrev pub invariant-loop-items : goal.invariant-loop-items
invariant-loop-items l = AreCounted l.text l.count l.items

-- each that is taken leaves fewer
abbrev pub decreases-loop-items : goal.decreases-loop-items
decreases-loop-items l = length l.items
