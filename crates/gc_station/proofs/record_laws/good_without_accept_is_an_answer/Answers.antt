use Rattle.gc_station.proofs.Codes.{without_accept}
use Rattle.gc_station.proofs.record_laws.good_without_accept_is_an_answer.Goals as goal

pub returns : goal.returns
returns c = without_accept
