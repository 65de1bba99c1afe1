use Rattle.gc_texts.proofs.Common.{length}
use Rattle.gc_texts.proofs.Items.{CountsSoFar}
use Rattle.gc_texts.proofs.item.counters_in.Given as goal

-- some items were taken, and counted if they are `>`
abbrev pub invariant-loop-item : goal.invariant-loop-item
invariant-loop-item l = CountsSoFar l.text l.count l.items

-- each that is taken leaves fewer
abbrev pub decreases-loop-item : goal.decreases-loop-item
decreases-loop-item l = length l.items
