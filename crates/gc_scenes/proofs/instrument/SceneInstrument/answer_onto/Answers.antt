use Rattle.gc_scenes.proofs.Common.{ℕ, subst, IsPlain, reply_line, SceneState}
use Rattle.gc_scenes.proofs.instrument.SceneInstrument.answer_onto.Goals as goal

pub returns-clause-plain : goal.returns-clause-plain
returns-clause-plain g c =
    subst (λ (s : SceneState). IsPlain (reply_line c.args.id c.args.rc c.args.answer.now s.base.precision)) c.self.view_is
    (subst (λ (places : ℕ). IsPlain (reply_line c.args.id c.args.rc c.args.answer.now places)) c.precision.ensures.value c.encode_answer_onto.ensures.plain)
