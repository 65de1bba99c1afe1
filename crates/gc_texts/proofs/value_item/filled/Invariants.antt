use Rattle.gc_texts.proofs.Common.{length, pieces_of}
use Rattle.gc_texts.proofs.ValueForms.{FillsSoFar}
use Rattle.gc_texts.proofs.value_item.filled.Given as goal

-- the items so far were put in
abbrev pub invariant-loop-item : goal.invariant-loop-item
invariant-loop-item l = FillsSoFar (pieces_of 44 l.params) l.initial.values l.full.items l.values l.items l.begun

-- each that is taken leaves fewer
abbrev pub decreases-loop-item : goal.decreases-loop-item
decreases-loop-item l = length l.items
