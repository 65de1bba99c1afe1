use Rattle.gc_station.proofs.Further.{send_goes_on}
use Rattle.gc_station.proofs.laws.each_send_goes_on.Goals as goal

pub returns : goal.returns
returns c = send_goes_on
