use Rattle.gc_station.proofs.Linking.{marks_go_on}
use Rattle.gc_station.proofs.laws.marks_go_on.Goals as goal

pub returns : goal.returns
returns c = marks_go_on
