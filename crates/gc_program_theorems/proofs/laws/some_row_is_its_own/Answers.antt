use Rattle.gc_program_theorems.proofs.Witnessed.{witnessed}
use Rattle.gc_program_theorems.proofs.laws.some_row_is_its_own.Goals as goal

pub returns : goal.returns
returns c = witnessed
