use Rattle.gc_program_theorems.proofs.LastingSoFar.{so_far_outlast_crashes, so_far_outlast_failures}
use Rattle.gc_program_theorems.proofs.laws.rows_so_far_outlast_crashes.Goals as goal

pub returns-clause-crashes : goal.returns-clause-crashes
returns-clause-crashes g c = so_far_outlast_crashes

pub returns-clause-failures : goal.returns-clause-failures
returns-clause-failures g c = so_far_outlast_failures
