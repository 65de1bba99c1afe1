use Rattle.gc_station.proofs.Nearly.{qualities_as_listed}
use Rattle.gc_station.proofs.record_laws.qualities_are_as_listed.Goals as goal

pub returns : goal.returns
returns c = qualities_as_listed
