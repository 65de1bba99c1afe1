use Rattle.gc_station.proofs.Common.{◌≤◌, sym, ap, ◌∙◌, subst, le-max_left, le-max_right, oldest}
use Rattle.gc_station.proofs.Freshness.{none_newer_renewed, NoneNewer}
use Rattle.gc_station.proofs.watching.Watches.renew.Goals as goal

pub invariant_of-self : goal.invariant_of-self
invariant_of-self c =
    let most = c.max-self-inside.ensures in
    let low : c.self.inside.newest ≤ c.max-self-inside.result = subst (λ n. c.self.inside.newest ≤ n) (sym most) (le-max_left c.self.inside.newest c.args.now.elapsed) in
    let new : c.args.now.elapsed ≤ c.max-self-inside.result = subst (λ n. c.args.now.elapsed ≤ n) (sym most) (le-max_right c.self.inside.newest c.args.now.elapsed) in
    record {
      oldest_is = c.oldest_of-self-inside.ensures ∙ ap oldest c.as_slice.ensures.value;
      none_newer = subst (NoneNewer c.max-self-inside.result) (sym c.renew_each.ensures)
          (none_newer_renewed c.self.inside.newest c.max-self-inside.result c.args.now.elapsed c.args.now.utc c.args.place c.self.inside.watches.items low new c.self.invariant.none_newer);
    }
