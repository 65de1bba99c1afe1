use Rattle.gc_theorems.proofs.Instruments.{simulator_is_an_instrument}
use Rattle.gc_theorems.proofs.laws.simulator_is_an_instrument.Goals as goal

pub returns : goal.returns
returns c = simulator_is_an_instrument
