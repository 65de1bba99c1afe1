use Rattle.gc_station.proofs.FirstActs.{first_acts_are_a_run}
use Rattle.gc_station.proofs.laws.first_acts_are_a_run.Goals as goal

pub returns : goal.returns
returns c = first_acts_are_a_run
