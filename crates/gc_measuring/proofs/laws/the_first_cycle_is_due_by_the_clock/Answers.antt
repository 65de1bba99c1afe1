use Rattle.gc_measuring.proofs.Multiples.{first_is_due}
use Rattle.gc_measuring.proofs.laws.the_first_cycle_is_due_by_the_clock.Goals as goal

pub returns : goal.returns
returns c = first_is_due
