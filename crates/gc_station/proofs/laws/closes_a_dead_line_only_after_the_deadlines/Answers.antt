use Rattle.gc_station.proofs.Mute.{dead_after_deadlines}
use Rattle.gc_station.proofs.laws.closes_a_dead_line_only_after_the_deadlines.Goals as goal

pub returns : goal.returns
returns c = dead_after_deadlines
