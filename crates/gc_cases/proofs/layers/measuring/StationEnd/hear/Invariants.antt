use Rattle.std.proofs.Common.{length}
use Rattle.gc_cases.proofs.layers.measuring.StationEnd.hear.Given as goal

abbrev pub invariant-loop-left : goal.invariant-loop-left
invariant-loop-left l = Unit

abbrev pub decreases-loop-left : goal.decreases-loop-left
decreases-loop-left l = length l.left
