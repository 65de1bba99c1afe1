use Rattle.gc_rehearsal.proofs.Running.{no_runs}
use Rattle.gc_rehearsal.proofs.nights.Rehearsing.run_once.Goals as goal

pub returns-in_default : goal.returns-in_default
returns-in_default g c = no_runs _ _
