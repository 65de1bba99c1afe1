use Rattle.gc_instrument.proofs.Common.{RepliesTo, line_answered, line_unanswered}
use Rattle.gc_instrument.proofs.replies.answer_frame.Goals as goal

pub returns-then-not-reply_to_line-clause-answered : goal.returns-then-not-reply_to_line-clause-answered
returns-then-not-reply_to_line-clause-answered g c = rw c.in-Line.is (line_unanswered (RepliesTo g.I.Replies.does) c.args.instrument.now c.reply_to_line.new.instrument
    c.in-Line.line.now c.args.text.now.items c.reply_to_line.new.out.items c.if-not-reply_to_line.ensures.replied)

pub returns-clause-answered : goal.returns-clause-answered
returns-clause-answered g c = rw c.in-Line.is (line_answered (RepliesTo g.I.Replies.does) c.args.instrument.now c.reply_to_line.new.instrument
    c.in-Line.line.now c.args.text.now.items c.reply_to_line.new.out.items c.append.new.to.items c.if-not-reply_to_line.ensures.replied c.append.ensures)
