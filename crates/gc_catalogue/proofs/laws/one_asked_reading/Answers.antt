use Rattle.gc_catalogue.proofs.AskedRules.{one_asked_reading}
use Rattle.gc_catalogue.proofs.laws.one_asked_reading.Goals as goal

pub returns : goal.returns
returns c = one_asked_reading
