use Rattle.gc_program_theorems.proofs.Damaged.{runs_are_instances}
use Rattle.gc_program_theorems.proofs.laws.runs_in_the_field_are_instances.Goals as goal

pub returns : goal.returns
returns g c = runs_are_instances
