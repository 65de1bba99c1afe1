use Rattle.gc_world.proofs.Common.{◌≡◌, ◌<◌, ◌≤◌, false, true, length, sym, ◌∙◌, ap, subst, refl, arith, doubled}
use Rattle.gc_world.proofs.Queues.{doubled_is, doubled_past}
use Rattle.gc_world.proofs.queue.Queue.repeat.Goals as goal

pub returns-in_default-clause-left : goal.returns-in_default-clause-left
returns-in_default-clause-left c =
    let old = c.self.inside.places in
    let none : c.args.k < length old.items → ⊥ = λ lt. let e : false ≡ true = c.in_default.ensures.variant.1 (subst (λ n. c.args.k < n) (sym old.ok.0) lt) in cc in
    sym (doubled_past c.args.k c.args.self.now (subst (λ q. length q ≤ c.args.k) c.self.view_is (omega (arith, none))))

pub returns-clause-left : goal.returns-clause-left
returns-clause-left c =
    let old = c.self.inside.places in
    let place = c.in-Some.place.now in
    let lt : c.args.k < length old.items = subst (λ n. c.args.k < n) old.ok.0 (c.in-Some.ensures.variant.0 refl) in
    c.in_ok-insert.ensures.items ∙ doubled_is old.items c.args.k place lt c.in-Some.ensures.lookup ∙ ap (doubled c.args.k) c.self.view_is
