use Rattle.gc_theorems.proofs.ClientRuns.{two_spread}
use Rattle.gc_theorems.proofs.client_damage.two_in_a_row_spread.Goals as goal

pub returns : goal.returns
returns c = two_spread
