use Rattle.gc_theorems.proofs.ClientRuns.{premises_are_met}
use Rattle.gc_theorems.proofs.client_damage.premises_are_met.Goals as goal

pub returns : goal.returns
returns c = premises_are_met
