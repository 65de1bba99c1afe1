use Rattle.gc_theorems.proofs.ClientRuns.{rare_bound_is_sharp}
use Rattle.gc_theorems.proofs.client_damage.rare_bound_is_sharp.Goals as goal

pub returns : goal.returns
returns c = rare_bound_is_sharp
