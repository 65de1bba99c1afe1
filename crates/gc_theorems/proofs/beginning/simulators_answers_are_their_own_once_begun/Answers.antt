use Rattle.gc_theorems.proofs.Common.{IsFittingState, simulator_ends, kept_of}
use Rattle.gc_theorems.proofs.BegunFaithful.{faithful}
use Rattle.gc_theorems.proofs.Instruments.{simulator_is_an_instrument}
use Rattle.gc_theorems.proofs.beginning.simulators_answers_are_their_own_once_begun.Goals as goal

pub returns : goal.returns
returns c = λ width narrow u clean ms possible. faithful simulator_ends IsFittingState kept_of simulator_is_an_instrument.instrument width narrow u clean ms possible
