use Rattle.gc_texts.proofs.Common.{length}
use Rattle.gc_texts.proofs.Items.{PassesSoFar}
use Rattle.gc_texts.proofs.item.no_item_in.Given as goal

-- some were taken, and are items
abbrev pub invariant-loop-item : goal.invariant-loop-item
invariant-loop-item l = PassesSoFar l.text l.passed l.items

-- each that is taken leaves fewer
abbrev pub decreases-loop-item : goal.decreases-loop-item
decreases-loop-item l = length l.items
