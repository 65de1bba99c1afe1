use Rattle.gc_station.proofs.Closings.{act_reasoned}
use Rattle.gc_station.proofs.laws.each_act_is_due.Goals as goal

pub returns : goal.returns
returns c = act_reasoned
