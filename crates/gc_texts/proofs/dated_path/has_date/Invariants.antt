use Rattle.gc_texts.proofs.Common.{◌≡◌, length, has_date}
use Rattle.gc_texts.proofs.dated_path.has_date.Given as goal

-- a part of the moment is in the path if it is in what is left of it
abbrev pub invariant-loop-first : goal.invariant-loop-first
invariant-loop-first l = has_date l.path ≡ has_date l.left

-- each byte leaves fewer of them
abbrev pub decreases-loop-first : goal.decreases-loop-first
decreases-loop-first l = length l.left
