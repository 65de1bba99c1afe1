use Rattle.gc_client.proofs.Common.{reply_seen}
use Rattle.gc_client.proofs.Ends.{answered_is}
use Rattle.gc_client.proofs.ending.set_replied.Goals as goal

-- a request that hadn't timed out is settled as answered by the line
pub returns-else-p : goal.returns-else-p
returns-else-p g c = answered_is _ c.args.p.now c.args.line.now (reply_seen c.args.reply.now) c.set_answered.new.outcome c.if-p.false c.requires.reads c.set_answered.ensures
