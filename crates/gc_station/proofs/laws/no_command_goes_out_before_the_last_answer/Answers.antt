use Rattle.gc_station.proofs.Beginnings.{none_before_the_last}
use Rattle.gc_station.proofs.laws.no_command_goes_out_before_the_last_answer.Goals as goal

pub returns : goal.returns
returns c = none_before_the_last
