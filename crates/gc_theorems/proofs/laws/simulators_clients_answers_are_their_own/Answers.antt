use Rattle.gc_theorems.proofs.Common.{IsFittingState, kept_of, simulator_ends}
use Rattle.gc_theorems.proofs.Instruments.{simulator_is_an_instrument}
use Rattle.gc_theorems.proofs.Parting.{each_is_own_if_safe}
use Rattle.gc_theorems.proofs.laws.simulators_clients_answers_are_their_own.Goals as goal

pub returns : goal.returns
returns c = each_is_own_if_safe simulator_ends IsFittingState kept_of simulator_is_an_instrument.instrument
