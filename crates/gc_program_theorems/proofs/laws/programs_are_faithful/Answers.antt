use Rattle.gc_program_theorems.proofs.Common.{refl}
use Rattle.gc_program_theorems.proofs.ProgramRows.{idle_programs, programs_faithful}
use Rattle.gc_program_theorems.proofs.laws.programs_are_faithful.Goals as goal

pub returns-clause-runs : goal.returns-clause-runs
returns-clause-runs g c = programs_faithful _ _ _ _ _ _ _ _ (λ f. refl) _ _ _

pub returns-clause-idle : goal.returns-clause-idle
returns-clause-idle g c = idle_programs _ _ _ _ _ _ _ _ _ _
