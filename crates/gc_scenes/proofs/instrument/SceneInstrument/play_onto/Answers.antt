use Rattle.gc_scenes.proofs.Common.{ℕ, Option, refl, sym, subst, AppendsPlayed, unless_faulted}
use Rattle.gc_scenes.proofs.instrument.SceneInstrument.play_onto.Goals as goal

pub returns-in-Some-clause-played : goal.returns-in-Some-clause-played
returns-in-Some-clause-played g c =
    let s = c.args.self.now in
    subst (λ (o : Option ℕ). AppendsPlayed c.args.id (unless_faulted s c.args.call.now o) s c.args.out.now.items c.reply_faulted_onto.new.out.items) (sym c.in-Some.is)
    (record { state = refl; appended = c.reply_faulted_onto.ensures.line; plain = c.reply_faulted_onto.ensures.plain })
