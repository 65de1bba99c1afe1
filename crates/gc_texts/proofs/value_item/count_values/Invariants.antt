use Rattle.gc_texts.proofs.Common.{length, pieces_of}
use Rattle.gc_texts.proofs.ValueForms.{CountsValues}
use Rattle.gc_texts.proofs.value_item.count_values.Given as goal

-- some items were taken, and counted if they stand for values
abbrev pub invariant-loop-item : goal.invariant-loop-item
invariant-loop-item l = CountsValues (pieces_of 44 l.params) l.count l.items

-- each that is taken leaves fewer
abbrev pub decreases-loop-item : goal.decreases-loop-item
decreases-loop-item l = length l.items
