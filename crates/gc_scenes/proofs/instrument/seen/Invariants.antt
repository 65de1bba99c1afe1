use Rattle.gc_scenes.proofs.Common.{◌≡◌, ◌++◌, ◌≤◌, drop, length, seen}
use Rattle.gc_scenes.proofs.instrument.seen.Given as goal

-- the targets seen so far, and those seen among the ones that are left, are all that are seen; and there are at most as many as
-- were looked at
abbrev pub invariant-loop-prism : goal.invariant-loop-prism
invariant-loop-prism l = (l.targets.items ++ seen l.sight (drop l.prism-index l.prisms) ≡ seen l.sight l.prisms) × (length l.targets.items ≤ l.prism-index)
