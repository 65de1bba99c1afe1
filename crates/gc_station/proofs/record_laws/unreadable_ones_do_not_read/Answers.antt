use Rattle.gc_station.proofs.Moments.{unreadable_as_read}
use Rattle.gc_station.proofs.record_laws.unreadable_ones_do_not_read.Goals as goal

pub returns : goal.returns
returns c = unreadable_as_read
