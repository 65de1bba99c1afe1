use Rattle.gc_theorems.proofs.Common.{sym, ◌∙◌, begun, course_client, IsFittingState, simulator_ends, kept_of, seen}
use Rattle.gc_theorems.proofs.InTime.{clean_faithful}
use Rattle.gc_theorems.proofs.Instruments.{simulator_is_an_instrument}
use Rattle.gc_theorems.proofs.laws.simulators_stations_answers_are_their_own.Goals as goal

pub returns : goal.returns
returns c = λ u rest acts ms carried.
    let f = clean_faithful simulator_ends IsFittingState kept_of simulator_is_an_instrument.instrument u carried.clean ms carried.possible in
    record { faithful = f; client = sym (course_client (seen ms) begun) ∙ f.stands }
