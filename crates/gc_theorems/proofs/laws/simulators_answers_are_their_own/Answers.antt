use Rattle.gc_theorems.proofs.Common.{IsFittingState, simulator_ends, kept_of}
use Rattle.gc_theorems.proofs.Faithful.{faithful}
use Rattle.gc_theorems.proofs.Instruments.{simulator_is_an_instrument}
use Rattle.gc_theorems.proofs.laws.simulators_answers_are_their_own.Goals as goal

pub returns : goal.returns
returns c = λ width narrow state good ms field. faithful simulator_ends IsFittingState kept_of simulator_is_an_instrument.instrument width narrow state good ms field.possible field.table field.alone
