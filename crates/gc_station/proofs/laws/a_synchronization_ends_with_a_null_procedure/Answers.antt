use Rattle.gc_station.proofs.SentWell.{begins_with_null}
use Rattle.gc_station.proofs.laws.a_synchronization_ends_with_a_null_procedure.Goals as goal

pub returns : goal.returns
returns c = begins_with_null
