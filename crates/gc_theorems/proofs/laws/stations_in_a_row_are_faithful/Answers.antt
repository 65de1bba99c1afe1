use Rattle.gc_theorems.proofs.Common.{AnyState}
use Rattle.gc_theorems.proofs.InARow.{in_a_row}
use Rattle.gc_theorems.proofs.laws.stations_in_a_row_are_faithful.Goals as goal

pub returns : goal.returns
returns g c = λ ends kept is u lines row xs h. in_a_row ends AnyState kept is u lines row xs h
