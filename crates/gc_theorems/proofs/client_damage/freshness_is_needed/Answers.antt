use Rattle.gc_theorems.proofs.ClientNeeded.{stale_ends_another}
use Rattle.gc_theorems.proofs.client_damage.freshness_is_needed.Goals as goal

pub returns : goal.returns
returns g c = stale_ends_another
