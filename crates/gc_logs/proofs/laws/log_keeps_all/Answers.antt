use Rattle.gc_logs.proofs.LogLines.{log_keeps_all}
use Rattle.gc_logs.proofs.laws.log_keeps_all.Goals as goal

pub returns : goal.returns
returns c = log_keeps_all
