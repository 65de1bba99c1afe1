use Rattle.gc_theorems.proofs.BeginWitness.{some_runs}
use Rattle.gc_theorems.proofs.beginning.some_runs_are_their_own.Goals as goal

pub returns : goal.returns
returns c = some_runs
