use Rattle.gc_station.proofs.Unsent.{unsent_for_a_cause}
use Rattle.gc_station.proofs.laws.unsent_ones_are_so_for_a_cause.Goals as goal

pub returns : goal.returns
returns c = unsent_for_a_cause
