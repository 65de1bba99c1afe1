-- Since when an answer is wanted, over many looks.
use Rattle.gc_measuring.proofs.Common.{◌≡◌, false, ◌&&◌, [], ◌∷◌, Some, None, refl, ap, ◌∙◌}
use Rattle.std.specs.Prelude.{not, if◌then◌else◌}
use Rattle.gc_links.specs.declared.link.Moment.{Moment}
use Rattle.gc_station.specs.declared.book.LinkHealth.{LinkHealth}
use Rattle.gc_station.specs.declared.book.LinkHealth.TheVariants.{Fine, Idle, Unconnected, Unquiet, Unheard}
use Rattle.gc_measuring.specs.Wanted.{after_look, wanted_from, WantCountsOverConnections}
use Rattle.gc_measuring.specs.declared.wanted.Wanted.{Wanted}

-- a cycle that has had no answer has none after a look either
still_unheard : (health : LinkHealth) (moment : Moment) (w : Wanted) → w.heard ≡ false → (after_look health moment w).heard ≡ false
still_unheard Fine moment w unheard = unheard
still_unheard Idle moment w unheard = refl
still_unheard Unconnected moment w unheard = unheard
still_unheard Unquiet moment w unheard = unheard
still_unheard Unheard moment w unheard = unheard

-- in a cycle that has had no answer, a look leaves the moment since which one is wanted
still_since : (health : LinkHealth) (moment since : Moment) (w : Wanted) → w.heard ≡ false → w.since ≡ Some since → (after_look health moment w).since ≡ Some since
still_since Fine moment since w unheard is = is
still_since Idle moment since w unheard is = ap (λ heard. if heard && not w.overdue then None else w.since) unheard ∙ is
still_since Unconnected moment since w unheard is = ap (λ from. wanted_from from moment) is
still_since Unquiet moment since w unheard is = ap (λ from. wanted_from from moment) is
still_since Unheard moment since w unheard is = ap (λ from. wanted_from from moment) is

-- in a cycle that has had no answer, any number of looks with no answer between them leaves the moment since which one is wanted
pub want_stays : WantCountsOverConnections
want_stays [] since w unheard is = is
want_stays (look ∷ later) since w unheard is =
    want_stays later since (after_look look.health look.moment w) (still_unheard look.health look.moment w unheard) (still_since look.health look.moment since w unheard is)
