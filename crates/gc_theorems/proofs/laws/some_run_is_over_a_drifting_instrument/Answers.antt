use Rattle.gc_theorems.proofs.Drifting.{answered}
use Rattle.gc_theorems.proofs.laws.some_run_is_over_a_drifting_instrument.Goals as goal

pub returns : goal.returns
returns c = answered
