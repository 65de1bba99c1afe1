use Rattle.gc_station.proofs.Tries.{stop_tried}
use Rattle.gc_station.proofs.laws.stops_only_after_all_tries.Goals as goal

pub returns : goal.returns
returns c = stop_tried
