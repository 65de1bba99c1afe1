use Rattle.gc_station.proofs.Requested.{records_requested}
use Rattle.gc_station.proofs.record_laws.each_record_is_of_its_request.Goals as goal

pub returns : goal.returns
returns c = records_requested
