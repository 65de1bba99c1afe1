use Rattle.gc_theorems.proofs.Pointed.{has_effect}
use Rattle.gc_theorems.proofs.laws.simulator_has_its_effect.Goals as goal

pub returns : goal.returns
returns c = has_effect
