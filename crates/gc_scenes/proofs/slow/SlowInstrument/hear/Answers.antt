use Rattle.gc_scenes.proofs.Common.{ℕ, refl, ap, ◌∙◌, starting_at, later, SlowState, taken_up}
use Rattle.gc_scenes.proofs.Slowly.{silent_heard, reply_heard}
use Rattle.gc_scenes.proofs.slow.SlowInstrument.hear.Goals as goal

pub returns-then-not-send_onto-clause-heard : goal.returns-then-not-send_onto-clause-heard
returns-then-not-send_onto-clause-heard g c =
    let i = c.self.inside in
    silent_heard (record { scene = i.scene; delays = i.delays.items; drops = i.drops; free_from = i.free_from }) c.args.self.now c.self.view_is c.args.line.now c.args.at
    c.set_moment.new.self c.send_onto.new.self c.args.out.now.items c.send_onto.new.out.items (c.if-drops_at.ensures.taken refl)
    (c.set_moment.ensures ∙ ap (λ (n : ℕ). starting_at n i.scene) c.taken_up-from.ensures ∙ ap (λ (b : SlowState). starting_at (taken_up c.args.self.now c.args.at) b.scene) c.self.view_is)
    c.if-not-send_onto.ensures.does

pub returns-clause-heard : goal.returns-clause-heard
returns-clause-heard g c =
    let i = c.self.inside in
    reply_heard (record { scene = i.scene; delays = i.delays.items; drops = i.drops; free_from = i.free_from }) c.args.self.now c.self.view_is c.args.line.now c.args.at
    c.set_moment.new.self c.send_onto.new.self c.args.out.now.items c.send_onto.new.out.items (c.if-drops_at.ensures.taken refl)
    (c.set_moment.ensures ∙ ap (λ (n : ℕ). starting_at n i.scene) c.taken_up-from.ensures ∙ ap (λ (b : SlowState). starting_at (taken_up c.args.self.now c.args.at) b.scene) c.self.view_is)
    c.delay_of_line.result c.moment_after-due.result c.delay_of_line.ensures
    (c.moment_after-due.ensures ∙ ap (λ n. later n c.delay_of_line.result) c.taken_up-from.ensures) c.if-not-send_onto.ensures.does
