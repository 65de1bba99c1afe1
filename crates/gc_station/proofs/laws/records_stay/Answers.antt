use Rattle.gc_station.proofs.SentAt.{records_stay}
use Rattle.gc_station.proofs.laws.records_stay.Goals as goal

pub returns : goal.returns
returns c = records_stay
