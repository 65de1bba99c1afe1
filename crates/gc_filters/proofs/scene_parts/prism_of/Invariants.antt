use Rattle.gc_filters.proofs.Common.{◌≡◌, drop, still, prism_of}
use Rattle.gc_filters.proofs.scene_parts.prism_of.Given as goal

-- the lines that are left make of the target so far what all lines make of it at first, when it is never hidden and doesn't move
abbrev pub invariant-loop-line : goal.invariant-loop-line
invariant-loop-line l = prism_of l.number (drop l.line-index l.lines) l.prism ≡ prism_of l.number l.lines (still l.fn.target)
