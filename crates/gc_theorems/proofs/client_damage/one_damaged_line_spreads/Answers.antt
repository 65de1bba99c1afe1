use Rattle.gc_theorems.proofs.ClientRuns.{one_spreads}
use Rattle.gc_theorems.proofs.client_damage.one_damaged_line_spreads.Goals as goal

pub returns : goal.returns
returns c = one_spreads
