use Rattle.gc_texts.proofs.Common.{◌≡◌, length, has_part}
use Rattle.gc_texts.proofs.cuts.has_part.Given as goal

-- the part is in the text if it is in what is left of it
abbrev pub invariant-loop-rest : goal.invariant-loop-rest
invariant-loop-rest l = has_part l.part l.text ≡ has_part l.part l.left

-- each byte leaves fewer of them
abbrev pub decreases-loop-rest : goal.decreases-loop-rest
decreases-loop-rest l = length l.left
