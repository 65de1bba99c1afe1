use Rattle.gc_theorems.proofs.CountingChain.{counted_in_field}
use Rattle.gc_theorems.proofs.laws.some_chain_is_over_a_counting_instrument.Goals as goal

pub returns : goal.returns
returns c = counted_in_field
