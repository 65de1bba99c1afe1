use Rattle.gc_scenes.proofs.Common.{◌<◌, sym, subst, request_seen, IsRefusal, CallFault}
use Rattle.gc_scenes.proofs.Plain.{reply_id_below}
use Rattle.gc_scenes.proofs.Playing.{call_reply, unread_reply}
use Rattle.gc_scenes.proofs.replying.SceneInstrumentReplies.reply_to.Goals as goal

pub returns-in-Ok-clause-replies : goal.returns-in-Ok-clause-replies
returns-in-Ok-clause-replies g c = call_reply c.args.self.now _ (request_seen c.args.request.now) c.decode_call_into.new.call _ _ c.in-Ok.ensures.found c.answer_request.ensures.gave

pub returns-in-Err-Parameters-clause-replies : goal.returns-in-Err-Parameters-clause-replies
returns-in-Err-Parameters-clause-replies g c =
    let q = request_seen c.args.request.now in
    unread_reply c.args.self.now q c.in-Err-Parameters.field-0-0 c.unwrap_or.result _ _
    (subst (λ (f : CallFault). IsRefusal q.rpc q.params f) c.in-Err-Parameters.field-0-is c.in-Err-Parameters.ensures.fault) c.unwrap_or.ensures c.push_reply.ensures.items (subst (λ n. n < 8) (sym c.unwrap_or.ensures) (reply_id_below q.id c.requires.id))
