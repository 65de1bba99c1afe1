use Rattle.gc_values.proofs.TextShape.{joined_splits}
use Rattle.gc_values.proofs.laws.joined_splits.Goals as goal

pub returns : goal.returns
returns c = joined_splits
