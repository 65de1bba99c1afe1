use Rattle.geocom_c.proofs.Common.{◌≡◌, ◌+◌, ◌++◌, ◌<◌, suc, List, ℕ, [], Some, length, take, refl, ◌∙◌, sym, ap, subst, arith, append_assoc, length-append, length-set, slice_get, slice_set, slice_get-get_or, FirstAre, total_length, total_length_next, total_length_front, StandsAt, GeocomItem}
use Rattle.geocom_c.proofs.Places.{first_are_weaker, first_written}
use Rattle.geocom_c.proofs.Items.{stands_here, stands_more}
use Rattle.geocom_c.proofs.listed.put_items.Goals as goal

pub overflow_cast-places-in-loop-k : goal.overflow_cast-places-in-loop-k
overflow_cast-places-in-loop-k c =
    let items = c.args.items.now in
    let k = c.loop-k.k in
    let lt : k < length items = omega (arith, c.loop-k-test.true, c.len-k-end.ensures.value) in
    omega (arith, c.requires.room, total_length_next items k lt, total_length_front items (suc k), ap length c.get-item.ensures)

pub append-requires : goal.append-requires
append-requires c =
    let items = c.args.items.now in
    let k = c.loop-k.k in
    let lt : k < length items = omega (arith, c.loop-k-test.true, c.len-k-end.ensures.value) in
    omega (arith, c.requires.room, c.loop-k.invariant.room, total_length_next items k lt, total_length_front items (suc k), ap length c.get-item.ensures)

pub loop-k-preserved : goal.loop-k-preserved
loop-k-preserved c =
    let items = c.args.items.now in
    let k = c.loop-k.k in
    let t = c.loop-k.text.items in
    let item = c.get-item.result.now in
    let e = c.append.ensures in
    let before = c.loop-k.invariant in
    let lt : k < length items = omega (arith, c.loop-k-test.true, c.len-k-end.ensures.value) in
    let next : suc k ≡ k + 1 = omega arith in
    let place : GeocomItem = record { offset = c.len.result; length = length item } in
    let here : slice_get items k ≡ Some item = slice_get-get_or items k [] lt ∙ ap Some (sym c.get-item.ensures) in
    let stands = stands_here t item place c.len.ensures.value refl in
    let earlier = first_are_weaker (StandsAt t) (StandsAt (t ++ item)) (stands_more t item) c.loop-k.places (take k items) before.places in
    let all = first_written (StandsAt (t ++ item)) c.loop-k.places items k place item earlier (omega (arith, lt, c.requires.few, before.size)) here stands in
    record {
      front = (before.front.0 ++ item, e ∙ ap (λ x. x ++ item) before.front.1 ∙ append_assoc c.args.text.now.items before.front.0 item);
      places = subst (λ (x : List ℕ). FirstAre (StandsAt x) (slice_set c.loop-k.places k place) (take (k + 1) items)) (sym e)
          (subst (λ m. FirstAre (StandsAt (t ++ item)) (slice_set c.loop-k.places k place) (take m items)) next all);
      size = length-set c.loop-k.places k place ∙ before.size;
      room = omega (arith, ap length e, length-append t item, before.room, total_length_next items k lt, ap length c.get-item.ensures, ap (λ m. total_length (take m items)) next);
    }
