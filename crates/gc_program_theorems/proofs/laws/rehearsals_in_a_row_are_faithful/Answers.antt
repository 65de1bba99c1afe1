use Rattle.gc_program_theorems.proofs.InARow.{stations_are_faithful}
use Rattle.gc_program_theorems.proofs.laws.rehearsals_in_a_row_are_faithful.Goals as goal

pub returns : goal.returns
returns c = stations_are_faithful
