use Rattle.gc_rehearsal.proofs.Common.{length, ◌-◌, ◌≤◌}
use Rattle.gc_rehearsal.proofs.explained.place_of_damaged.Given as goal

-- the replies before the place `from` aren't looked at
abbrev pub invariant-loop-truth : goal.invariant-loop-truth
invariant-loop-truth l = l.from ≤ l.place

-- each reply leaves fewer of them
abbrev pub decreases-loop-truth : goal.decreases-loop-truth
decreases-loop-truth l = length l.left - l.place
