use Rattle.gc_scenes.proofs.Common.{sym, ap, ◌∙◌, ◌++◌, Unknown, refusal_line}
use Rattle.gc_scenes.proofs.Plain.{reply_id_below}
use Rattle.gc_scenes.proofs.Playing.{gave_fault, gave_scripted, gave_refusal}
use Rattle.gc_scenes.proofs.instrument.SceneInstrument.answer_raw.Goals as goal

pub returns-in-Some-clause-gave : goal.returns-in-Some-clause-gave
returns-in-Some-clause-gave g c = gave_fault c.args.self.now _ c.args.rpc c.args.id _ _ c.in-Some.rc (sym c.in-Some.is ∙ c.fault_of.ensures) c.answer_request.ensures.gave

pub returns-in-Some-scripted_reply-clause-gave : goal.returns-in-Some-scripted_reply-clause-gave
returns-in-Some-scripted_reply-clause-gave g c =
    gave_scripted c.args.self.now _ c.args.rpc c.args.id _ _ c.in-Some-scripted_reply.reply (sym c.in-None.is ∙ c.fault_of.ensures) (sym c.in-Some-scripted_reply.is ∙ c.scripted_reply.ensures)
    c.answer_request-in-Some-scripted_reply.ensures.gave

pub returns-in-None-scripted_reply-clause-gave : goal.returns-in-None-scripted_reply-clause-gave
returns-in-None-scripted_reply-clause-gave g c =
    gave_refusal c.args.self.now _ c.args.rpc c.args.id _ _ (sym c.in-None.is ∙ c.fault_of.ensures) (sym c.in-None-scripted_reply.is ∙ c.scripted_reply.ensures) c.count.ensures
    (c.push_reply.ensures.items ∙ ap (λ n. c.args.out.now.items ++ refusal_line n Unknown) c.unwrap_or.ensures) (reply_id_below c.args.id c.requires.id)
