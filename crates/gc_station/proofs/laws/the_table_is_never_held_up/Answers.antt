use Rattle.gc_station.proofs.HeldUp.{never_held_up}
use Rattle.gc_station.proofs.laws.the_table_is_never_held_up.Goals as goal

pub returns : goal.returns
returns c = never_held_up
