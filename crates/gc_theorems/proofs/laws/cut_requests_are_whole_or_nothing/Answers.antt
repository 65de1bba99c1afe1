use Rattle.gc_theorems.proofs.Fronts.{whole_or_nothing}
use Rattle.gc_theorems.proofs.laws.cut_requests_are_whole_or_nothing.Goals as goal

pub returns : goal.returns
returns c = whole_or_nothing
