use Rattle.gc_station.proofs.HoldingBack.{none_in_doubt}
use Rattle.gc_station.proofs.laws.nothing_is_sent_in_doubt.Goals as goal

pub returns : goal.returns
returns c = none_in_doubt
