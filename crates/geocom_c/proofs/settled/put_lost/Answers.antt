use Rattle.geocom_c.proofs.Common.{◌≡◌, ◌+◌, ◌∙◌, List, [], Some, length, suc, map, take, sym, ap, subst, arith, length-set, slice_get, slice_set, option_map, drop-set-lt, slice_get-map, slice_get-get_or, Asked, Settlement, settlement_seen, FirstAre, HasOutcome, IsRecord}
use Rattle.geocom_c.proofs.Places.{first_written}
use Rattle.gc_theorems.proofs.Among.{lost_at}
use Rattle.gc_client.specs.Rule
use Rattle.geocom_c.proofs.settled.put_lost.Goals as goal

pub loop-k-preserved : goal.loop-k-preserved
loop-k-preserved c =
    let settled = c.args.settled.now in
    let k = c.loop-k.k in
    let s = c.index-settled-k.result in
    let r = c.unanswered.result in
    let seen = map settlement_seen settled in
    let next : suc k ≡ k + 1 = omega arith in
    let here : slice_get seen k ≡ Some (settlement_seen s) =
    slice_get-map settlement_seen settled k ∙ ap (option_map settlement_seen) (slice_get-get_or settled k s c.loop-k-test.true ∙ ap Some (sym c.index-settled-k.is)) in
    let over = lost_at c.requires.lost.0 k (settlement_seen s) (subst (λ (ss : List (Settlement Asked)). slice_get ss k ≡ Some (settlement_seen s)) c.requires.lost.1 here) in
    let is : IsRecord [] r (settlement_seen s) = record {
      target = c.unanswered.ensures.target;
      procedure = c.unanswered.ensures.procedure;
      outcome = subst (λ (o : Rule.Outcome). HasOutcome r [] s.call o) (sym over) c.unanswered.ensures.unanswered;
    } in
    record {
      records = subst (λ m. FirstAre (IsRecord []) (slice_set c.loop-k.records k r) (take m seen)) next
          (first_written (IsRecord []) c.loop-k.records seen k r (settlement_seen s) c.loop-k.invariant.records (omega (arith, c.loop-k-test.true, c.requires.room, c.loop-k.invariant.size)) here is);
      size = length-set c.loop-k.records k r ∙ c.loop-k.invariant.size;
      untouched = drop-set-lt (length settled) c.loop-k.records k r c.loop-k-test.true ∙ c.loop-k.invariant.untouched;
    }
