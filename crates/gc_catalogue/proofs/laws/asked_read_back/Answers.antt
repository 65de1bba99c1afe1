use Rattle.gc_catalogue.proofs.AskedRules.{asked_again}
use Rattle.gc_catalogue.proofs.laws.asked_read_back.Goals as goal

pub returns : goal.returns
returns c = asked_again
