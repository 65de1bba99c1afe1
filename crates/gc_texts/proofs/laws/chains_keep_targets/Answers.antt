use Rattle.gc_texts.proofs.TaskLaws.{chains_keep_targets}
use Rattle.gc_texts.proofs.laws.chains_keep_targets.Goals as goal

pub returns : goal.returns
returns c = chains_keep_targets
