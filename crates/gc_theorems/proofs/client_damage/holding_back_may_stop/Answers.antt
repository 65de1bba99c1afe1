use Rattle.gc_theorems.proofs.ClientRuns.{may_stop}
use Rattle.gc_theorems.proofs.client_damage.holding_back_may_stop.Goals as goal

pub returns : goal.returns
returns c = may_stop
