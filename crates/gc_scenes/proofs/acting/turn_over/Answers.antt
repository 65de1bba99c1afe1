use Rattle.gc_scenes.proofs.Common.{sym, ap, ◌∙◌, Decimal, Nothing, done, pointed, State, Pointing, other_hz, other_v}
use Rattle.gc_scenes.proofs.acting.turn_over.Goals as goal

pub returns : goal.returns
returns c =
    let s = c.args.instrument.now in
    let there = c.pointing-there.result in
    sym (ap (λ (h : Decimal). done (pointed s h c.other_v.result) Nothing) c.other_hz.ensures ∙ ap (λ (v : Decimal). done (pointed s (other_hz there.hz) v) Nothing) c.other_v.ensures
    ∙ ap (λ (p : Pointing). done (pointed s (other_hz p.hz) (other_v p.v)) Nothing) c.pointing-there.ensures)
    ∙ ap (λ (t : State). done t Nothing) (sym c.turn_to.ensures)
