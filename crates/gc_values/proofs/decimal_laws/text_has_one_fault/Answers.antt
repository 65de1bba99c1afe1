use Rattle.gc_values.proofs.DecimalLaws.{beyond_not_nothing}
use Rattle.gc_values.proofs.decimal_laws.text_has_one_fault.Goals as goal

pub returns : goal.returns
returns c = beyond_not_nothing
