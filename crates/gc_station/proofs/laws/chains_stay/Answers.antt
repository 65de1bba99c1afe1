use Rattle.gc_station.proofs.Linking.{chains_stay}
use Rattle.gc_station.proofs.laws.chains_stay.Goals as goal

pub returns : goal.returns
returns c = chains_stay
