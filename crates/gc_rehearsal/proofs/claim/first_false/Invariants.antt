use Rattle.gc_rehearsal.proofs.Matching.{HasMatched}
use Rattle.gc_rehearsal.proofs.claim.first_false.Given as goal

-- all claims are true exactly if those from place `matched` on are, by the replies that aren't seen yet
abbrev pub invariant-loop-truth : goal.invariant-loop-truth
invariant-loop-truth l = HasMatched l.claims l.truths l.matched l.truth-index
