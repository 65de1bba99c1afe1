use Rattle.gc_texts.proofs.Common.{ℕ, List, sym, subst, IsReply, reply_seen}
use Rattle.gc_texts.proofs.ZeroReplies.{zero_reads}
use Rattle.gc_texts.proofs.zeroed.reading_as_zero.Goals as goal

pub returns-in-Ok : goal.returns-in-Ok
returns-in-Ok c r is =
    zero_reads c.args.asked.now c.args.line.now.items (reply_seen c.in-Ok.reply) c.read_into.new.reading
    (subst (λ (l : List ℕ). IsReply l (reply_seen c.in-Ok.reply)) c.as_slice.ensures.value c.in-Ok.ensures.found) c.read_into.ensures

pub returns-in-Err : goal.returns-in-Err
returns-in-Err c r is =
    let bad = c.in-Err.ensures.only r (subst (λ (l : List ℕ). IsReply l r) (sym c.as_slice.ensures.value) is) in
    cc
