use Rattle.gc_station.proofs.Setups.{set_ups_go_on}
use Rattle.gc_station.proofs.laws.attempts_of_the_set_up_go_on.Goals as goal

pub returns : goal.returns
returns c = set_ups_go_on
