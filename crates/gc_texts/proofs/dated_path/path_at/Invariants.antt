use Rattle.gc_texts.proofs.Common.{◌≡◌, ◌++◌, length, dated}
use Rattle.gc_texts.proofs.dated_path.path_at.Given as goal

-- what was made, and what is left of the path as it is at the moment, are the path as it is then
abbrev pub invariant-loop-first : goal.invariant-loop-first
invariant-loop-first l = l.made.items ++ dated l.utc l.left ≡ dated l.utc l.path

-- each byte leaves fewer of them
abbrev pub decreases-loop-first : goal.decreases-loop-first
decreases-loop-first l = length l.left
