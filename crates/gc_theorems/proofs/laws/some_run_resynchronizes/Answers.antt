use Rattle.gc_theorems.proofs.BeginsAnew.{answered_anew}
use Rattle.gc_theorems.proofs.laws.some_run_resynchronizes.Goals as goal

pub returns : goal.returns
returns c = answered_anew
