use Rattle.gc_station.proofs.BoundRuns.{outage_recorded}
use Rattle.gc_station.proofs.laws.an_outage_is_recorded_by_its_bound.Goals as goal

pub returns : goal.returns
returns c = outage_recorded
