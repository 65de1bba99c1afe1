use Rattle.gc_catalogue.proofs.AskedRules.{one_asked}
use Rattle.gc_catalogue.proofs.laws.one_asked.Goals as goal

pub returns : goal.returns
returns c = one_asked
