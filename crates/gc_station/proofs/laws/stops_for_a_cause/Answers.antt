use Rattle.gc_station.proofs.Closings.{stopped_for}
use Rattle.gc_station.proofs.laws.stops_for_a_cause.Goals as goal

pub returns : goal.returns
returns c why plan commands scope acts = stopped_for plan commands scope acts why
