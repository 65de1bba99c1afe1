use Rattle.gc_logs.proofs.LogCuts.{fit_over, fit_turned}
use Rattle.gc_logs.proofs.rolling.Rolling.begin_line.Goals as goal

pub invariant_of-self : goal.invariant_of-self
invariant_of-self g c =
    let old = c.args.self.now in
    let fit = fit_turned old.most (g.K.Rolls.files old.files) _ c.turn_to.result c.turn_to.ensures.turns (record { below = old.below; ends = old.ends; whole = old.whole c.requires }) in
    record { below = fit.below; ends = fit.ends; whole = λ _. fit.whole }

pub invariant_of-self-2 : goal.invariant_of-self-2
invariant_of-self-2 g c =
    let old = c.args.self.now in
    let turned = fit_turned old.most (g.K.Rolls.files old.files) _ c.turn_to.result c.turn_to.ensures.turns (record { below = old.below; ends = old.ends; whole = old.whole c.requires }) in
    let fit = fit_over old.most (g.K.Rolls.files c.turn_to.new.self) _ c.roll.result c.roll.ensures.rolls turned in
    record { below = fit.below; ends = fit.ends; whole = λ _. fit.whole }
