use Rattle.gc_values.proofs.DecimalLaws.{decimal_eq_exactly}
use Rattle.gc_values.proofs.decimal_laws.equality_is_that_of_decimals.Goals as goal

pub returns : goal.returns
returns c = decimal_eq_exactly
