use Rattle.gc_station.proofs.Values.{requests_have_values}
use Rattle.gc_station.proofs.record_laws.each_request_has_its_values.Goals as goal

pub returns : goal.returns
returns c = requests_have_values
