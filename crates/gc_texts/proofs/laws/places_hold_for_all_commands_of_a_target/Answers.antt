use Rattle.gc_texts.proofs.Placing.{places_hold}
use Rattle.gc_texts.proofs.laws.places_hold_for_all_commands_of_a_target.Goals as goal

pub returns : goal.returns
returns c = places_hold
