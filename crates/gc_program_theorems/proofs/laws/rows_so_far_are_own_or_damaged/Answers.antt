use Rattle.gc_program_theorems.proofs.SoFar.{objects_so_far_own_or_damaged, rows_so_far_few, rows_so_far_own_or_damaged, tables_so_far_own_or_damaged}
use Rattle.gc_program_theorems.proofs.laws.rows_so_far_are_own_or_damaged.Goals as goal

pub returns-clause-tables : goal.returns-clause-tables
returns-clause-tables g c = tables_so_far_own_or_damaged

pub returns-clause-objects : goal.returns-clause-objects
returns-clause-objects g c = objects_so_far_own_or_damaged

pub returns-clause-records : goal.returns-clause-records
returns-clause-records g c = rows_so_far_own_or_damaged

pub returns-clause-few : goal.returns-clause-few
returns-clause-few g c = rows_so_far_few
