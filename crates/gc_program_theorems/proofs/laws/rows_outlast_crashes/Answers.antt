use Rattle.gc_program_theorems.proofs.Lasting.{rows_outlast_crashes}
use Rattle.gc_program_theorems.proofs.laws.rows_outlast_crashes.Goals as goal

pub returns : goal.returns
returns g c = rows_outlast_crashes
