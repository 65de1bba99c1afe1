use Rattle.gc_program_theorems.proofs.Common.{refl}
use Rattle.gc_program_theorems.proofs.Lasting.{appends_are_runs}
use Rattle.gc_program_theorems.proofs.laws.appends_are_runs_of_files.Goals as goal

pub returns : goal.returns
returns g c = appends_are_runs _ _ _ _ (λ f. refl)
