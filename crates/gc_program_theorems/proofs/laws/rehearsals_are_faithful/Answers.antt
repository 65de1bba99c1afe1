use Rattle.gc_program_theorems.proofs.Rehearsed.{rehearsed_runs_are_faithful}
use Rattle.gc_program_theorems.proofs.laws.rehearsals_are_faithful.Goals as goal

pub returns : goal.returns
returns c = rehearsed_runs_are_faithful
