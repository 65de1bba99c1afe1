use Rattle.gc_world.proofs.Common.{◌∙◌, ap, subst, ◌<◌, IsSome, without}
use Rattle.std.proofs.Common.{◌↔◌}
use Rattle.gc_world.proofs.Queues.{if_none, lose_left}
use Rattle.gc_world.proofs.queue.Queue.lose.Goals as goal

pub returns-clause-left : goal.returns-clause-left
returns-clause-left c =
    let old = c.self.inside.places in
    let variant = subst (λ n. IsSome c.remove.result ↔ (c.args.k < n)) old.ok.0 c.remove.ensures.variant in
    lose_left c.remove.result c.args.k old.items c.remove.new.self.items variant c.remove.ensures.items
    (if_none c.remove.result (λ e. ap (λ v. v.items) e) c.remove.ensures.unchanged)
    ∙ ap (without c.args.k) c.self.view_is
