use Rattle.gc_instrument.proofs.Common.{refl, request_seen, no_refusal}
use Rattle.gc_instrument.proofs.Answering.{refused_reply, reply_to_call_is_to_request}
use Rattle.gc_instrument.proofs.instrument.replying.InstrumentReplies.reply_to.Goals as goal

pub returns-in-Ok-clause-replies : goal.returns-in-Ok-clause-replies
returns-in-Ok-clause-replies g c =
    let h = c.answer_call.ensures.replies in
    record {
      text = h.text;
      appended = h.appended;
      is = reply_to_call_is_to_request c.args.self.now c.answer_call.new.self (request_seen c.args.request.now) c.decode_call_into.new.call h.text c.in-Ok.ensures.found h.is;
    }

pub returns-in-Err-clause-replies : goal.returns-in-Err-clause-replies
returns-in-Err-clause-replies g c = record {
  text = _;
  appended = c.push_reply.ensures.items;
  is = record {
    answers = refused_reply c.args.self.now _ c.in-Err.fault c.unwrap_or.result _ c.in-Err.ensures.fault c.unwrap_or.ensures (rw c.com_code.ensures refl);
    plain = λ call is. absurd (no_refusal _ _ call c.in-Err.fault is c.in-Err.ensures.fault);
    says = λ call is new. absurd (no_refusal _ _ call c.in-Err.fault is c.in-Err.ensures.fault);
  };
}
