use Rattle.gc_station.proofs.Used.{turns_used}
use Rattle.gc_station.proofs.laws.ends_for_turns_only_after_as_many_acts.Goals as goal

pub returns : goal.returns
returns c = turns_used
