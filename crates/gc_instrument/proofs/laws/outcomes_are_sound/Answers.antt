use Rattle.gc_instrument.proofs.Executions.{exec_outcome}
use Rattle.gc_instrument.proofs.laws.outcomes_are_sound.Goals as goal

pub returns : goal.returns
returns c = exec_outcome
