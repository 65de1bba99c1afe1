use Rattle.gc_catalogue.proofs.AskedRules.{each_asked_reply}
use Rattle.gc_catalogue.proofs.laws.each_reply_is_read_for_asked.Goals as goal

pub returns : goal.returns
returns c = each_asked_reply
