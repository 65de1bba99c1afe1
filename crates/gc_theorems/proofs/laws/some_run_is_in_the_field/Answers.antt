use Rattle.gc_theorems.proofs.Witness.{answered_in_field}
use Rattle.gc_theorems.proofs.laws.some_run_is_in_the_field.Goals as goal

pub returns : goal.returns
returns c = answered_in_field
