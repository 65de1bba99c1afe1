use Rattle.gc_program_theorems.proofs.Objected.{objects_own}
use Rattle.gc_program_theorems.proofs.Owning.{rows_own}
use Rattle.gc_program_theorems.proofs.Tabled.{tables_own}
use Rattle.gc_program_theorems.proofs.laws.rows_are_their_own.Goals as goal

pub returns-clause-tables : goal.returns-clause-tables
returns-clause-tables g c = tables_own

pub returns-clause-objects : goal.returns-clause-objects
returns-clause-objects g c = objects_own

pub returns-clause-records : goal.returns-clause-records
returns-clause-records g c = rows_own
