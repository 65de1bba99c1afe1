use Rattle.gc_scenes.proofs.Common.{sym, ap, ◌∙◌, Nothing, adjusted, done, pointed, refused, State, Pointing, nearest}
use Rattle.gc_scenes.proofs.acting.aim.Goals as goal

pub returns-in-Some : goal.returns-in-Some
returns-in-Some c =
    let there : Pointing = record { hz = c.args.hz.now; v = c.args.v.now } in
    ap (adjusted (pointed c.args.instrument.now there.hz there.v)) (ap (nearest there) (sym c.scene.ensures) ∙ sym c.nearest.ensures ∙ c.in-Some.is)
    ∙ ap (λ (t : State). done t Nothing) (sym c.turn_to.ensures)

pub returns-in-None : goal.returns-in-None
returns-in-None c =
    let there : Pointing = record { hz = c.args.hz.now; v = c.args.v.now } in
    ap (adjusted (pointed c.args.instrument.now there.hz there.v)) (ap (nearest there) (sym c.scene.ensures) ∙ sym c.nearest.ensures ∙ c.in-None.is)
    ∙ ap (λ (t : State). refused t 8710) (sym c.turn_to-in-None.ensures)
