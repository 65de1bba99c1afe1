use Rattle.gc_station.proofs.Setups.{each_set_up_once}
use Rattle.gc_station.proofs.laws.each_command_of_the_set_up_once.Goals as goal

pub returns : goal.returns
returns c = each_set_up_once
