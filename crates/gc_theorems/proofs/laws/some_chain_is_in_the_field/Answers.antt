use Rattle.gc_theorems.proofs.ChainWitness.{pointed_in_field}
use Rattle.gc_theorems.proofs.laws.some_chain_is_in_the_field.Goals as goal

pub returns : goal.returns
returns c = pointed_in_field
