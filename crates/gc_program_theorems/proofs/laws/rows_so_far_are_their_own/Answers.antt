use Rattle.gc_program_theorems.proofs.SoFar.{objects_so_far_own, tables_so_far_own}
use Rattle.gc_program_theorems.proofs.laws.rows_so_far_are_their_own.Goals as goal

pub returns-clause-tables : goal.returns-clause-tables
returns-clause-tables g c = tables_so_far_own

pub returns-clause-objects : goal.returns-clause-objects
returns-clause-objects g c = objects_so_far_own
