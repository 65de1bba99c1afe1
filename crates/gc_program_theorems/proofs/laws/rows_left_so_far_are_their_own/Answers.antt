use Rattle.gc_program_theorems.proofs.LeftSoFar.{left_objects_so_far_own, left_objects_so_far_own_or_damaged, left_tables_so_far_own, left_tables_so_far_own_or_damaged}
use Rattle.gc_program_theorems.proofs.laws.rows_left_so_far_are_their_own.Goals as goal

pub returns-clause-tables : goal.returns-clause-tables
returns-clause-tables g c = left_tables_so_far_own

pub returns-clause-objects : goal.returns-clause-objects
returns-clause-objects g c = left_objects_so_far_own

pub returns-clause-damaged_tables : goal.returns-clause-damaged_tables
returns-clause-damaged_tables g c = left_tables_so_far_own_or_damaged

pub returns-clause-damaged_objects : goal.returns-clause-damaged_objects
returns-clause-damaged_objects g c = left_objects_so_far_own_or_damaged
