use Rattle.gc_station.proofs.Answers.{late_true}
use Rattle.gc_station.proofs.laws.late_ones_came_late.Goals as goal

pub returns : goal.returns
returns c = late_true
