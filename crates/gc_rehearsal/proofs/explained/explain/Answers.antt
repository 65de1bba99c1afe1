use Rattle.gc_rehearsal.proofs.Common.{◌≡◌, length, Some, refl, slice_get_read, slice_get}
use Rattle.gc_rehearsal.proofs.Explaining.{all_explained, explained_next, no_more_doubts, no_more_than_rows}
use Rattle.gc_rehearsal.proofs.explained.explain.Goals as goal

pub loop-claim-preserved : goal.loop-claim-preserved
loop-claim-preserved c =
    let there : slice_get c.args.claims.now c.loop-claim.rows ≡ Some c.in-Some.claim.now =
    slice_get_read c.args.claims.now (length c.args.claims.now) c.loop-claim.rows c.in-Some.claim.now refl c.in-Some.ensures.lookup.3.0 c.in-Some.ensures.lookup.1 in
    let next = c.in-Some-explain_row in (
      explained_next c.args.claims.now c.args.truths.now c.loop-claim.left.now next.since.now c.loop-claim.rows c.loop-claim.falses next.more c.in-Some.claim.now
          c.loop-claim.invariant.0 there next.ensures,
      no_more_than_rows c.loop-claim.left.now next.since.now c.loop-claim.rows c.loop-claim.falses next.more c.in-Some.claim.now c.loop-claim.invariant.1 next.ensures,
      no_more_doubts c.loop-claim.left.now next.since.now c.loop-claim.rows c.loop-claim.falses next.more c.in-Some.claim.now c.loop-claim.invariant.2 next.ensures,
    )

pub returns : goal.returns
returns c = all_explained c.args.claims.now c.args.truths.now c.loop-claim.left.now c.loop-claim.rows c.loop-claim.falses c.loop-claim.invariant.0
