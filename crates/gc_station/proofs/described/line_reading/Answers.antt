use Rattle.gc_station.proofs.Common.{ℕ, List, sym, subst, ReplyFields, IsReply, reply_seen, one_reply, IsSaidInForm}
use Rattle.gc_station.proofs.described.line_reading.Goals as goal

pub returns-in-Ok : goal.returns-in-Ok
returns-in-Ok c r is =
    let own = subst (λ (l : List ℕ). IsReply l (reply_seen c.in-Ok.reply)) c.as_slice.ensures.value c.in-Ok.ensures.found in
    subst (λ (q : ReplyFields). IsSaidInForm c.args.form.now q c.reply_reading.result)
    (one_reply c.args.line.now.items (reply_seen c.in-Ok.reply) r own is) c.reply_reading.ensures

pub returns-in-Err : goal.returns-in-Err
returns-in-Err c r is =
    let bad = c.in-Err.ensures.only r (subst (λ (l : List ℕ). IsReply l r) (sym c.as_slice.ensures.value) is) in
    cc
