use Rattle.geocom_c.proofs.Common.{ℕ, List, length, unanswered_after, IsRest, HeardBut}
use Rattle.geocom_c.proofs.Answering.{HasLeft}
use Rattle.geocom_c.proofs.beginning.hear_all.Given as goal

-- all bytes but those that are left were heard (`HeardBut`)
abbrev pub invariant-loop-left : goal.invariant-loop-left
invariant-loop-left l = (r : List ℕ) → IsRest l.fn.rest r → HeardBut unanswered_after (HasLeft l.rest l.beginning) l.fn.beginning r l.bytes l.left

-- how many bytes are left
abbrev pub decreases-loop-left : goal.decreases-loop-left
decreases-loop-left l = length l.left
