use Rattle.gc_station.proofs.Readings.{one_for_a_line}
use Rattle.gc_station.proofs.laws.each_line_says_one_thing.Goals as goal

pub returns : goal.returns
returns c = one_for_a_line
