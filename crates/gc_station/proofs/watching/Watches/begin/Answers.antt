use Rattle.gc_station.proofs.Common.{map, sym, ap, ◌∙◌, subst, map-map, places_of, unanswered, oldest, Watch}
use Rattle.gc_station.proofs.Freshness.{none_newer_begun, NoneNewer}
use Rattle.gc_station.proofs.watching.Watches.begin.Goals as goal

pub invariant_of-self : goal.invariant_of-self
invariant_of-self c =
    let old = c.self.inside.watches.items in
    record {
      oldest_is = c.oldest_of-self-inside.ensures ∙ ap oldest c.as_slice.ensures.value;
      none_newer = subst (NoneNewer 0) (map-map unanswered (λ (w : Watch). w.place) old ∙ sym c.begin_each.ensures) (none_newer_begun (places_of old));
    }

pub returns : goal.returns
returns c = c.begin_each.ensures ∙ sym (map-map unanswered (λ (w : Watch). w.place) c.self.inside.watches.items) ∙ ap (λ ws. map unanswered (places_of ws)) c.self.view_is
