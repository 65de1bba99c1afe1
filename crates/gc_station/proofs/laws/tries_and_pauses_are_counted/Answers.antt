use Rattle.gc_station.proofs.Pauses.{tries_counted}
use Rattle.gc_station.proofs.laws.tries_and_pauses_are_counted.Goals as goal

pub returns : goal.returns
returns c = tries_counted
