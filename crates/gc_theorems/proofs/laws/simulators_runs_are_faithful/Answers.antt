use Rattle.gc_theorems.proofs.Common.{IsFittingState, simulator_ends, kept_of}
use Rattle.gc_theorems.proofs.Instruments.{simulator_is_an_instrument}
use Rattle.gc_theorems.proofs.Joining.{run_faithful}
use Rattle.gc_theorems.proofs.laws.simulators_runs_are_faithful.Goals as goal

pub returns : goal.returns
returns c = λ u x field. run_faithful simulator_ends IsFittingState kept_of simulator_is_an_instrument.instrument u x field
