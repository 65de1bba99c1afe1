use Rattle.gc_scenes.proofs.Common.{◌≡◌, drop, None, nearest_of}
use Rattle.gc_scenes.proofs.ways.nearest.Given as goal

-- the nearest of the target found so far and those that are left is the nearest of all
abbrev pub invariant-loop-target : goal.invariant-loop-target
invariant-loop-target l = nearest_of l.there l.found (drop l.target-index l.targets) ≡ nearest_of l.there None l.targets
