use Rattle.gc_scenes.proofs.Common.{◌≡◌, ◌++◌, ◌≤◌, drop, length, drifted}
use Rattle.gc_scenes.proofs.instrument.drifted.Given as goal

-- the targets moved so far, and those that are left, moved, are all targets, moved; and there are at most as many as were
-- looked at
abbrev pub invariant-loop-prism : goal.invariant-loop-prism
invariant-loop-prism l = (l.moved.items ++ drifted l.sight (drop l.prism-index l.prisms) ≡ drifted l.sight l.prisms) × (length l.moved.items ≤ l.prism-index)
