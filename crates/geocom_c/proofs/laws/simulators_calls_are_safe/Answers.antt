use Rattle.geocom_c.proofs.Common.{IsFittingState, simulator_ends, kept_of}
use Rattle.geocom_c.proofs.Safely.{calls_safe}
use Rattle.geocom_c.proofs.laws.simulators_calls_are_safe.Goals as goal

pub returns : goal.returns
returns c = calls_safe simulator_ends IsFittingState kept_of
