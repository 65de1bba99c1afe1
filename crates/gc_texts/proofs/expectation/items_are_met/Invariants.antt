use Rattle.gc_texts.proofs.Common.{◌≡◌, length, items_are_met}
use Rattle.gc_texts.proofs.expectation.items_are_met.Given as goal

-- the items and values that are left decide
abbrev pub invariant-loop-item : goal.invariant-loop-item
invariant-loop-item l = items_are_met l.before l.fn.items l.fn.values ≡ items_are_met l.before l.items l.values

-- each that is taken leaves fewer
abbrev pub decreases-loop-item : goal.decreases-loop-item
decreases-loop-item l = length l.items
