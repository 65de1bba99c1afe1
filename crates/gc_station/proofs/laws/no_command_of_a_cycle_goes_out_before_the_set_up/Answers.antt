use Rattle.gc_station.proofs.Prepared.{none_before_the_set_up, set_up_in_order}
use Rattle.gc_station.proofs.laws.no_command_of_a_cycle_goes_out_before_the_set_up.Goals as goal

pub returns : goal.returns
returns c = record { cycles = none_before_the_set_up; itself = set_up_in_order }
