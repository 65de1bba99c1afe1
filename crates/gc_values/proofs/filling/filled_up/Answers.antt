use Rattle.gc_values.proofs.Common.{rules, drop-replicate}
use Rattle.gc_values.proofs.filling.filled_up.Goals as goal

pub returns : goal.returns
returns g c = search (rules, drop-replicate, c.copy_from_slice.ensures.after)
