use Rattle.gc_links.proofs.Common.{◌≡◌, ◌||◌, ap, false, rules, sym, true, ◌∙◌, signals_at}
use Rattle.gc_links.proofs.Taking.{seen_at}
use Rattle.gc_links.proofs.watched.see.Goals as goal

pub returns-then-moment : goal.returns-then-moment
returns-then-moment g c =
    let stops : c.args.moment.stops ≡ true = search rules in
    seen_at (signals_at c.args.signals) c.args.files.now c.args.moment c.look-here.result c.args.moment.stops c.take_touch-touched.result c.take_values-values.result
    (ap (λ b. b || c.look-here.result) stops ∙ sym stops)
    c.look-here.ensures c.take_touch-touched.ensures c.take_values-values.ensures

pub returns-else-moment : goal.returns-else-moment
returns-else-moment g c =
    let stops : c.args.moment.stops ≡ false = search rules in
    seen_at (signals_at c.args.signals) c.args.files.now c.args.moment c.look-here.result c.look-here.result c.take_touch-touched.result c.take_values-values.result
    (ap (λ b. b || c.look-here.result) stops)
    c.look-here.ensures c.take_touch-touched.ensures c.take_values-values.ensures
