use Rattle.gc_scenes.proofs.Common.{◌∙◌, ap, subst, IsPlain, reply_line, Answer, Nothing, answer_or_values}
use Rattle.gc_scenes.proofs.instrument.SceneInstrument.reply_faulted_onto.Goals as goal

pub returns-clause-plain : goal.returns-clause-plain
returns-clause-plain g c =
    let s = c.args.self.now in
    let told = c.answer_or_values-answer.ensures ∙ ap (λ d. answer_or_values s.ways.values s.base.pointing c.args.call.now c.args.rc d Nothing) c.distance_in_warning-distance.ensures in
    subst (λ (a : Answer). IsPlain (reply_line c.args.id c.args.rc a s.base.precision)) told c.answer_onto.ensures.plain
