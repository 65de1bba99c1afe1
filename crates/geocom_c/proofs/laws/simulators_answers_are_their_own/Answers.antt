use Rattle.geocom_c.proofs.Common.{IsFittingState, simulator_ends, kept_of, simulator_is_an_instrument}
use Rattle.geocom_c.proofs.Owned.{each_answer_is_own}
use Rattle.geocom_c.proofs.laws.simulators_answers_are_their_own.Goals as goal

pub returns : goal.returns
returns c = each_answer_is_own simulator_ends IsFittingState kept_of simulator_is_an_instrument.instrument
