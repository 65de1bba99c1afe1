use Rattle.gc_station.proofs.Grouped.{groups_turn}
use Rattle.gc_station.proofs.record_laws.groups_have_their_turn.Goals as goal

pub returns : goal.returns
returns c = groups_turn
