use Rattle.gc_theorems.proofs.SessionWitness.{some_session_is_in_field}
use Rattle.gc_theorems.proofs.laws.some_session_is_in_the_field.Goals as goal

pub returns : goal.returns
returns c = some_session_is_in_field
