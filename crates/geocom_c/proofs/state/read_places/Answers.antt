use Rattle.geocom_c.proofs.Common.{◌≡◌, ◌<◌, ◌+◌, ◌++◌, ◌∷◌, [], List, suc, length, take, Some, ◌∙◌, sym, ap, subst, arith, length-append, slice_get, none-some, slice_get-get_or, Asked, take_next, Pending, FirstAre, HoldsRequest}
use Rattle.gc_world.proofs.Places.{element_at}
use Rattle.geocom_c.proofs.Places.{first_more, placed_together}
use Rattle.geocom_c.proofs.state.read_places.Goals as goal

pub loop-k-preserved : goal.loop-k-preserved
loop-k-preserved c =
    let e = c.push.ensures in
    let k = c.loop-k.k in
    let places = c.args.places.now in
    let before = c.loop-k.invariant in
    let within : k < length places = omega (arith, c.loop-k-test.true, c.requires.there) in
    let here = slice_get-get_or places k _ within in
    record {
      count = omega (arith, ap length e, length-append c.loop-k.window (c.in_ok-p.p ∷ []), before.count);
      found = subst (λ (w : List (Pending Asked)). FirstAre HoldsRequest places w) (sym e)
          (first_more HoldsRequest places c.loop-k.window _ c.in_ok-p.p before.found (ap (slice_get places) before.count ∙ here) c.in_ok-p.ensures.found);
      only = λ ps n are.
          let it = element_at ps k (omega (arith, n, c.loop-k-test.true)) in
          let both : Some c.in_ok-p.p ≡ Some it.0 = sym c.in_ok-p.was ∙ c.read_place.ensures.only it.0 (placed_together HoldsRequest places ps k _ it.0 are here it.1) in
          let same : c.in_ok-p.p ≡ it.0 = cc in
          let next : suc k ≡ k + 1 = omega arith in
          e ∙ ap (λ (w : List (Pending Asked)). w ++ c.in_ok-p.p ∷ []) (before.only ps n are) ∙ ap (λ q. take k ps ++ q ∷ []) same
          ∙ sym (take_next ps k it.0 it.1) ∙ ap (λ m. take m ps) next;
    }

pub returns-in_err-p-clause-only : goal.returns-in_err-p-clause-only
returns-in_err-p-clause-only c = λ ps n are.
    let k = c.loop-k.k in
    let places = c.args.places.now in
    let within : k < length places = omega (arith, c.loop-k-test.true, c.requires.there) in
    let it = element_at ps k (omega (arith, n, c.loop-k-test.true)) in
    let here = slice_get-get_or places k _ within in
    absurd (none-some it.0 (sym c.in_err-p.was ∙ c.read_place.ensures.only it.0 (placed_together HoldsRequest places ps k _ it.0 are here it.1)))
