use Rattle.gc_texts.proofs.Placing.{unwatched_hold}
use Rattle.gc_texts.proofs.laws.unwatched_targets_are_so_in_all_their_commands.Goals as goal

pub returns : goal.returns
returns c = unwatched_hold
