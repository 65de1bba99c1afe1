use Rattle.gc_lines.proofs.Common.{reply_seen}
use Rattle.gc_lines.proofs.Reading.{knows_result}
use Rattle.gc_lines.proofs.Replies.{reply_reads}
use Rattle.gc_lines.proofs.reply.read_reply.Goals as goal

pub returns : goal.returns
returns c = let it = knows_result reply_reads reply_seen c.args.line.now c.reply_of.result c.reply_of.ensures in
    record { found = it.found; only = it.only; fault = it.fault; faulty = it.faulty; exact = c.reply_of.ensures }
