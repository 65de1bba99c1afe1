use Rattle.geocom_c.proofs.Common.{◌≡◌, ◌+◌, ◌∙◌, Some, length, suc, map, take, sym, ap, subst, arith, length-set, slice_get, slice_set, option_map, drop-set-lt, slice_get-map, slice_get-get_or, all_at, Asked, IsAskedReading, IsReadBy, settlement_seen, FirstAre, IsRecord, AnswerHasLine}
use Rattle.gc_client.specs.declared.settlement.Settlement.{Settlement}
use Rattle.geocom_c.proofs.Places.{first_written}
use Rattle.gc_client.specs.Rule
use Rattle.geocom_c.proofs.settled.put_records.Goals as goal

pub record_of-requires : goal.record_of-requires
record_of-requires c =
    let settled = c.args.settled.now in
    let k = c.loop-k.k in
    let s = c.index-settled-k.result in
    let here : slice_get (map settlement_seen settled) k ≡ Some (settlement_seen s) =
    slice_get-map settlement_seen settled k ∙ ap (option_map settlement_seen) (slice_get-get_or settled k s c.loop-k-test.true ∙ ap Some (sym c.index-settled-k.is)) in
    let line = c.requires.told.0 in (
      line,
      c.requires.told.1,
      all_at (λ (x : Rule.Settlement Asked). AnswerHasLine line x.outcome) (map settlement_seen settled) k (settlement_seen s) c.requires.told.2 here,
    )

pub loop-k-preserved : goal.loop-k-preserved
loop-k-preserved c =
    let settled = c.args.settled.now in
    let text = c.args.told.now.text.items in
    let k = c.loop-k.k in
    let s = c.index-settled-k.result in
    let r = c.record_of.result in
    let seen = map settlement_seen settled in
    let next : suc k ≡ k + 1 = omega arith in
    let here : slice_get seen k ≡ Some (settlement_seen s) =
    slice_get-map settlement_seen settled k ∙ ap (option_map settlement_seen) (slice_get-get_or settled k s c.loop-k-test.true ∙ ap Some (sym c.index-settled-k.is)) in
    let is = c.record_of.ensures (subst (λ (x : Settlement Asked). IsReadBy IsAskedReading x.call x.outcome) (sym c.index-settled-k.is) (c.requires.read k s c.loop-k-test.true)) in
    record {
      records = subst (λ m. FirstAre (IsRecord text) (slice_set c.loop-k.records k r) (take m seen)) next
          (first_written (IsRecord text) c.loop-k.records seen k r (settlement_seen s) c.loop-k.invariant.records
          (omega (arith, c.loop-k-test.true, c.requires.room, c.loop-k.invariant.size)) here is);
      size = length-set c.loop-k.records k r ∙ c.loop-k.invariant.size;
      untouched = drop-set-lt (length settled) c.loop-k.records k r c.loop-k-test.true ∙ c.loop-k.invariant.untouched;
    }
