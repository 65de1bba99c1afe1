use Rattle.gc_program_theorems.proofs.Lasting.{file_moments_so_far}
use Rattle.gc_program_theorems.proofs.RunMoments.{ends_so_far, moments_so_far, runs_return}
use Rattle.gc_program_theorems.proofs.laws.moments_are_runs_so_far.Goals as goal

pub returns-clause-moments : goal.returns-clause-moments
returns-clause-moments g c = moments_so_far

pub returns-clause-ends : goal.returns-clause-ends
returns-clause-ends g c = ends_so_far

pub returns-clause-files : goal.returns-clause-files
returns-clause-files g c = file_moments_so_far

pub returns-clause-returns : goal.returns-clause-returns
returns-clause-returns g c = runs_return
