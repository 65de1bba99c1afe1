use Rattle.gc_rehearsal.proofs.Common.{rules}
use Rattle.gc_rehearsal.proofs.Matching.{matched_next}
use Rattle.gc_rehearsal.proofs.claim.first_false.Goals as goal

pub loop-truth-preserved : goal.loop-truth-preserved
loop-truth-preserved c =
    matched_next c.args.claims.now c.args.truths.now c.loop-truth.matched c.loop-truth.truth-index c.truth-item.result c.loop-truth.invariant
    (search rules) (search rules) c.matched_with-matched.result c.matched_with-matched.ensures
