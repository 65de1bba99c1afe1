use Rattle.gc_station.proofs.Givens.{rest_given}
use Rattle.gc_station.proofs.laws.rest_is_what_came.Goals as goal

pub returns : goal.returns
returns c = rest_given
