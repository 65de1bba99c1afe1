use Rattle.gc_filters.proofs.Common.{◌≡◌, ◌++◌, ◌+◌, ◌≤◌, drop, length, prisms_of}
use Rattle.gc_filters.specs.declared.scene_parts.TheConstants.{MOST_TARGETS}
use Rattle.gc_filters.proofs.scene_parts.prisms_of.Given as goal

-- the targets changed so far, and those that are left, whose first has the number `number`, as the lines change them, are all
-- targets as the lines change them
abbrev pub invariant-loop-target : goal.invariant-loop-target
invariant-loop-target l =
    (l.prisms.items ++ prisms_of l.lines l.number (drop l.target-index l.targets) ≡ prisms_of l.lines 1 l.targets)
    × (length l.prisms.items ≤ l.target-index) × (l.number ≡ l.target-index + 1) × (length l.targets ≤ MOST_TARGETS)
