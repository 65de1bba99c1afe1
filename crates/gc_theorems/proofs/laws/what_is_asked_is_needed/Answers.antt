use Rattle.gc_theorems.proofs.Needed.{all_needed}
use Rattle.gc_theorems.proofs.laws.what_is_asked_is_needed.Goals as goal

pub returns : goal.returns
returns c = all_needed
