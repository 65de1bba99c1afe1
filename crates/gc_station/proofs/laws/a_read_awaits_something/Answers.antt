use Rattle.gc_station.proofs.Outages.{reads_await}
use Rattle.gc_station.proofs.laws.a_read_awaits_something.Goals as goal

pub returns : goal.returns
returns c = reads_await
