use Rattle.gc_station.proofs.Common.{ℕ, List, Some, sym, subst, IsReply, reply_seen}
use Rattle.gc_station.proofs.Saying.{zero_said}
use Rattle.gc_station.proofs.described.line_reading_as_zero.Goals as goal

pub returns-in-Ok : goal.returns-in-Ok
returns-in-Ok c r is call =
    zero_said (Some c.args.form.now) call c.args.line.now.items (reply_seen c.in-Ok.reply) c.reply_reading.result
    (subst (λ (l : List ℕ). IsReply l (reply_seen c.in-Ok.reply)) c.as_slice.ensures.value c.in-Ok.ensures.found) c.reply_reading.ensures

pub returns-in-Err : goal.returns-in-Err
returns-in-Err c r is call =
    let bad = c.in-Err.ensures.only r (subst (λ (l : List ℕ). IsReply l r) (sym c.as_slice.ensures.value) is) in
    cc
