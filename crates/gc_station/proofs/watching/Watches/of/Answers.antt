use Rattle.gc_station.proofs.Common.{sym, ap, ◌∙◌, subst, map-map, map-id, places_of, unanswered, watched_in, oldest, Watch}
use Rattle.gc_station.proofs.Freshness.{none_newer_begun, NoneNewer}
use Rattle.gc_station.proofs.watching.Watches.of.Goals as goal

pub invariant_of-result : goal.invariant_of-result
invariant_of-result c = record {
  oldest_is = c.oldest_of-oldest.ensures ∙ ap oldest c.as_slice.ensures.value;
  none_newer = subst (NoneNewer 0) (sym c.in_ok-watches.ensures) (none_newer_begun (watched_in c.after_setup.result.now));
}

pub returns : goal.returns
returns c =
    let tasks = c.after_setup.result.now in
    ap places_of c.in_ok-watches.ensures ∙ map-map (λ (w : Watch). w.place) unanswered (watched_in tasks) ∙ map-id (watched_in tasks) ∙ ap watched_in c.after_setup.ensures
