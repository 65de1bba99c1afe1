use Rattle.gc_theorems.proofs.ClientRuns.{some_synchronization_is_damaged}
use Rattle.gc_theorems.proofs.client_damage.some_synchronization_is_damaged.Goals as goal

pub returns : goal.returns
returns c = some_synchronization_is_damaged
