use Rattle.gc_texts.proofs.Common.{◌≡◌, length, is_dated_path}
use Rattle.gc_texts.proofs.dated_path.is_dated_path.Given as goal

-- the path is well-formed if what is left of it is
abbrev pub invariant-loop-first : goal.invariant-loop-first
invariant-loop-first l = is_dated_path l.path ≡ is_dated_path l.left

-- each byte leaves fewer of them
abbrev pub decreases-loop-first : goal.decreases-loop-first
decreases-loop-first l = length l.left
