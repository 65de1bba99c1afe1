use Rattle.gc_station.proofs.Beginnings.{synchronizes_in_order}
use Rattle.gc_station.proofs.laws.each_synchronization_goes_on_by_its_answers.Goals as goal

pub returns : goal.returns
returns c plan commands scope earlier later act runs = synchronizes_in_order plan commands scope earlier act later runs
