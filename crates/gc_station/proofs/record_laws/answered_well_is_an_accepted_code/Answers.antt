use Rattle.gc_station.proofs.Codes.{accepted_codes}
use Rattle.gc_station.proofs.record_laws.answered_well_is_an_accepted_code.Goals as goal

pub returns : goal.returns
returns c = accepted_codes
