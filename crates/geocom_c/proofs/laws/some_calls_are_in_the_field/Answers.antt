use Rattle.geocom_c.proofs.FieldWitness.{some_calls_are_in_field}
use Rattle.geocom_c.proofs.laws.some_calls_are_in_the_field.Goals as goal

pub returns : goal.returns
returns c = some_calls_are_in_field
