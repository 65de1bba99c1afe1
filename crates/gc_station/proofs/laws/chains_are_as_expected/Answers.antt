use Rattle.gc_station.proofs.Expecting.{chains_as_expected}
use Rattle.gc_station.proofs.laws.chains_are_as_expected.Goals as goal

pub returns : goal.returns
returns c = chains_as_expected
