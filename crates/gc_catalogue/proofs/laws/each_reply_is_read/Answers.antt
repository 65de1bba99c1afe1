use Rattle.gc_catalogue.proofs.EachReply.{each_reply}
use Rattle.gc_catalogue.proofs.laws.each_reply_is_read.Goals as goal

pub returns : goal.returns
returns c = each_reply
