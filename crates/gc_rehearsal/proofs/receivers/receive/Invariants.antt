use Rattle.gc_rehearsal.proofs.Common.{length}
use Rattle.gc_rehearsal.proofs.receivers.receive.Given as goal

-- nothing is said of the lines so far
abbrev pub invariant-loop-left : goal.invariant-loop-left
invariant-loop-left l = Unit

-- each frame leaves fewer bytes
abbrev pub decreases-loop-left : goal.decreases-loop-left
decreases-loop-left l = length l.left
