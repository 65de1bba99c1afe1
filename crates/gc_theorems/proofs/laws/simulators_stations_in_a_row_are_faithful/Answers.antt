use Rattle.gc_theorems.proofs.Common.{IsFittingState, simulator_ends, kept_of}
use Rattle.gc_theorems.proofs.InARow.{in_a_row}
use Rattle.gc_theorems.proofs.Instruments.{simulator_is_an_instrument}
use Rattle.gc_theorems.proofs.laws.simulators_stations_in_a_row_are_faithful.Goals as goal

pub returns : goal.returns
returns c = λ u lines row xs h. in_a_row simulator_ends IsFittingState kept_of simulator_is_an_instrument.instrument u lines row xs h
