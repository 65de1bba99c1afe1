use Rattle.gc_station.proofs.Answers.{lost_true}
use Rattle.gc_station.proofs.laws.lost_ones_are_lost_for_a_cause.Goals as goal

pub returns : goal.returns
returns c = lost_true
