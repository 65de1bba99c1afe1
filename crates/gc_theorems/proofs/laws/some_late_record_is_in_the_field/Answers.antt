use Rattle.gc_theorems.proofs.LateAnswer.{late_in_field}
use Rattle.gc_theorems.proofs.laws.some_late_record_is_in_the_field.Goals as goal

pub returns : goal.returns
returns c = late_in_field
