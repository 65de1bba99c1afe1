use Rattle.gc_theorems.proofs.Common.{IsFittingState, simulator_ends, kept_of}
use Rattle.gc_theorems.proofs.BegunRuns.{runs_are_their_own}
use Rattle.gc_theorems.proofs.Instruments.{simulator_is_an_instrument}
use Rattle.gc_theorems.proofs.beginning.simulators_runs_are_their_own.Goals as goal

pub returns : goal.returns
returns c = λ width narrow u lines row rs runs few. runs_are_their_own simulator_ends IsFittingState kept_of simulator_is_an_instrument.instrument width narrow u lines row rs runs few
