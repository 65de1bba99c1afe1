use Rattle.gc_texts.proofs.Common.{◌≡◌, length, count_among}
use Rattle.gc_texts.proofs.expectation.count_among.Given as goal

-- the items and values that are left decide
abbrev pub invariant-loop-item : goal.invariant-loop-item
invariant-loop-item l = count_among l.fn.items l.fn.values ≡ count_among l.items l.values

-- each that is taken leaves fewer
abbrev pub decreases-loop-item : goal.decreases-loop-item
decreases-loop-item l = length l.items
