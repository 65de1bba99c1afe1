use Rattle.gc_rehearsal.proofs.Common.{length, ◌-◌}
use Rattle.gc_rehearsal.proofs.explained.place_of_true.Given as goal

-- nothing is said of the replies so far
abbrev pub invariant-loop-truth : goal.invariant-loop-truth
invariant-loop-truth l = Unit

-- each reply leaves fewer of them
abbrev pub decreases-loop-truth : goal.decreases-loop-truth
decreases-loop-truth l = length l.left - l.place
