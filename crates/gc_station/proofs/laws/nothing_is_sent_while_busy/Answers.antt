use Rattle.gc_station.proofs.WhileBusy.{nothing_is_sent_while_busy}
use Rattle.gc_station.proofs.laws.nothing_is_sent_while_busy.Goals as goal

pub returns : goal.returns
returns c = nothing_is_sent_while_busy
