use Rattle.gc_station.proofs.HoldingBack.{held_back}
use Rattle.gc_station.proofs.laws.requests_are_held_back.Goals as goal

pub returns : goal.returns
returns c = held_back
