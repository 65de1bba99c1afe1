use Rattle.gc_station.proofs.Common.{rules, ◌≡◌, ◌≤◌, map, sym, ap, ◌∙◌, subst, cut_to, oldest}
use Rattle.gc_station.proofs.Freshness.{none_newer_cut, cut_changes_none, NoneNewer}
use Rattle.gc_station.proofs.watching.Watches.cut.Goals as goal

pub invariant_of-self : goal.invariant_of-self
invariant_of-self c =
    record {
      oldest_is = c.oldest_of-self-inside.ensures ∙ ap oldest c.as_slice.ensures.value;
      none_newer = subst (NoneNewer c.args.now) (sym c.cut_each.ensures) (none_newer_cut c.args.now c.self.inside.watches.items);
    }

pub returns-else-now-self : goal.returns-else-now-self
returns-else-now-self c =
    let low : c.self.inside.newest ≤ c.args.now = search rules in
    subst (λ ws. ws ≡ map (cut_to c.args.now) ws) c.self.view_is (cut_changes_none c.self.inside.newest c.args.now c.self.inside.watches.items low c.self.invariant.none_newer)
