use Rattle.gc_theorems.proofs.Common.{IsFittingState, held_back, theirs, kept_of, simulator_ends}
use Rattle.gc_theorems.proofs.Instruments.{simulator_is_an_instrument}
use Rattle.gc_theorems.proofs.DamagedSessions.{session_local}
use Rattle.gc_theorems.proofs.damage.simulators_sessions_with_damage_are_local.Goals as goal

pub returns : goal.returns
returns c = session_local simulator_ends IsFittingState kept_of simulator_is_an_instrument.instrument theirs held_back
