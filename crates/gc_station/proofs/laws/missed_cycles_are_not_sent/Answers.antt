use Rattle.gc_station.proofs.Cycles.{sent_only_in_time}
use Rattle.gc_station.proofs.laws.missed_cycles_are_not_sent.Goals as goal

pub returns : goal.returns
returns c = sent_only_in_time
