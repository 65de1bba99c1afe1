use Rattle.gc_station.proofs.Retrying.{each_has_its_turn}
use Rattle.gc_station.proofs.record_laws.each_record_has_its_turn.Goals as goal

pub returns : goal.returns
returns c = each_has_its_turn
