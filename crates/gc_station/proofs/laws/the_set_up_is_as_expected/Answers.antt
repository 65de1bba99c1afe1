use Rattle.gc_station.proofs.Expecting.{set_up_as_expected}
use Rattle.gc_station.proofs.laws.the_set_up_is_as_expected.Goals as goal

pub returns : goal.returns
returns c = set_up_as_expected
