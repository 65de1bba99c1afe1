use Rattle.gc_theorems.proofs.Common.{near, theirs, IsFittingState, kept_of, simulator_ends}
use Rattle.gc_theorems.proofs.Instruments.{simulator_is_an_instrument}
use Rattle.gc_theorems.proofs.Sessions.{session_is_own}
use Rattle.gc_theorems.proofs.laws.simulators_sessions_answers_are_their_own.Goals as goal

pub returns : goal.returns
returns c = session_is_own simulator_ends IsFittingState kept_of simulator_is_an_instrument.instrument theirs near
