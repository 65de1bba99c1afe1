use Rattle.gc_theorems.proofs.Common.{chains_stay, marks_go_on, records_stay}
use Rattle.gc_theorems.proofs.Pointed.{pointed}
use Rattle.gc_theorems.proofs.laws.chains_are_measured_where_they_pointed.Goals as goal

pub returns : goal.returns
returns c = λ u x field. pointed u x field chains_stay marks_go_on records_stay
