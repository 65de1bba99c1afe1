use Rattle.gc_logs.proofs.Leaving.{earlier_files_last}
use Rattle.gc_logs.proofs.laws.earlier_files_last.Goals as goal

pub returns : goal.returns
returns g c = earlier_files_last
