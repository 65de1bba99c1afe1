use Rattle.gc_theorems.proofs.ClientRuns.{six_are_too_many}
use Rattle.gc_theorems.proofs.client_damage.six_are_too_many.Goals as goal

pub returns : goal.returns
returns c = six_are_too_many
