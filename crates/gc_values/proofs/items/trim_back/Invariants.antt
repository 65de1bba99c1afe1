use Rattle.gc_values.proofs.Common.{◌≡◌, ◌≤◌, ◌-◌, drop, length, replicate}
use Rattle.gc_values.proofs.items.trim_back.Given as goal

abbrev pub invariant-loop-end : goal.invariant-loop-end
invariant-loop-end l = (l.end ≤ length l.text) × (drop l.end l.text ≡ replicate (length l.text - l.end) 32)

abbrev pub decreases-loop-end : goal.decreases-loop-end
decreases-loop-end l = l.end
