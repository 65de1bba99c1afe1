use Rattle.gc_texts.proofs.Common.{length}
use Rattle.gc_texts.proofs.Items.{NoDotsBefore}
use Rattle.gc_texts.proofs.item.dots_in.Given as goal

-- `..` isn't before this place
abbrev pub invariant-loop-rest : goal.invariant-loop-rest
invariant-loop-rest l = NoDotsBefore l.item l.place l.left

-- each byte leaves fewer of them
abbrev pub decreases-loop-rest : goal.decreases-loop-rest
decreases-loop-rest l = length l.left
