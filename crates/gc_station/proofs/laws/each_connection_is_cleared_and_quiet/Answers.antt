use Rattle.gc_station.proofs.Quiets.{cleared_and_quiet}
use Rattle.gc_station.proofs.laws.each_connection_is_cleared_and_quiet.Goals as goal

pub returns : goal.returns
returns c = cleared_and_quiet
