use Rattle.geocom_c.proofs.Common.{◌≡◌, ◌+◌, suc, take, ◌∙◌, subst, arith, length-set, slice_set, FirstAre, HoldsRequest}
use Rattle.geocom_c.proofs.Places.{first_written}
use Rattle.geocom_c.proofs.state.write_places.Goals as goal

pub loop-k-preserved : goal.loop-k-preserved
loop-k-preserved c =
    let k = c.loop-k.k in
    let next : suc k ≡ k + 1 = omega arith in
    let before = c.loop-k.invariant in
    record {
      places = subst (λ m. FirstAre HoldsRequest (slice_set c.loop-k.places k c.write_place.result) (take m c.args.window.now)) next
          (first_written HoldsRequest c.loop-k.places c.args.window.now k c.write_place.result c.get.result before.places
          (omega (arith, c.loop-k-test.true, c.len-k-end.ensures.len, c.requires, before.length)) c.get.ensures c.write_place.ensures);
      length = length-set c.loop-k.places k c.write_place.result ∙ before.length;
    }
