use Rattle.gc_logs.proofs.LogCuts.{keep_the_newest}
use Rattle.gc_logs.proofs.laws.logs_keep_the_newest.Goals as goal

pub returns : goal.returns
returns c = keep_the_newest
