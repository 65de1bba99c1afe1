use Rattle.gc_values.proofs.OrderLemmas.{cmp_ranks}
use Rattle.gc_values.proofs.decimal_laws.order_is_that_of_the_values.Goals as goal

pub returns : goal.returns
returns c = cmp_ranks
