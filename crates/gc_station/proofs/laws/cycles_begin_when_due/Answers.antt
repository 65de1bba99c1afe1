use Rattle.gc_station.proofs.Dues.{begin_when_due}
use Rattle.gc_station.proofs.laws.cycles_begin_when_due.Goals as goal

pub returns : goal.returns
returns c = begin_when_due
