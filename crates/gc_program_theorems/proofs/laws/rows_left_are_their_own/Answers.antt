use Rattle.gc_program_theorems.proofs.Left.{left_objects_own, left_tables_own}
use Rattle.gc_program_theorems.proofs.laws.rows_left_are_their_own.Goals as goal

pub returns-clause-tables : goal.returns-clause-tables
returns-clause-tables g c = left_tables_own

pub returns-clause-objects : goal.returns-clause-objects
returns-clause-objects g c = left_objects_own
