use Rattle.geocom_c.proofs.Common.{◌≡◌, ◌+◌, ◌∙◌, Some, length, suc, map, take, sym, ap, subst, arith, length-set, slice_get, slice_set, option_map, drop-set-lt, slice_get-map, slice_get-get_or, field_seen, FirstAre, IsColumnOf}
use Rattle.geocom_c.proofs.Places.{first_written}
use Rattle.geocom_c.proofs.columns.put_columns.Goals as goal

pub loop-k-preserved : goal.loop-k-preserved
loop-k-preserved c =
    let fields = c.args.fields.now in
    let k = c.loop-k.k in
    let f = c.index-fields-k.result in
    let r = c.column_of.result in
    let seen = map field_seen fields in
    let next : suc k ≡ k + 1 = omega arith in
    let here : slice_get seen k ≡ Some (field_seen f) =
    slice_get-map field_seen fields k ∙ ap (option_map field_seen) (slice_get-get_or fields k f c.loop-k-test.true ∙ ap Some (sym c.index-fields-k.is)) in
    record {
      columns = subst (λ m. FirstAre IsColumnOf (slice_set c.loop-k.columns k r) (take m seen)) next
          (first_written IsColumnOf c.loop-k.columns seen k r (field_seen f) c.loop-k.invariant.columns
          (omega (arith, c.loop-k-test.true, c.requires, c.loop-k.invariant.size)) here c.column_of.ensures);
      size = length-set c.loop-k.columns k r ∙ c.loop-k.invariant.size;
      untouched = drop-set-lt (length fields) c.loop-k.columns k r c.loop-k-test.true ∙ c.loop-k.invariant.untouched;
    }
