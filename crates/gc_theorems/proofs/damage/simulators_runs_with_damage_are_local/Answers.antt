use Rattle.gc_theorems.proofs.Common.{IsFittingState, kept_of, simulator_ends}
use Rattle.gc_theorems.proofs.Instruments.{simulator_is_an_instrument}
use Rattle.gc_theorems.proofs.DamagedRuns.{run_local}
use Rattle.gc_theorems.proofs.damage.simulators_runs_with_damage_are_local.Goals as goal

pub returns : goal.returns
returns c = λ u x field. run_local simulator_ends IsFittingState kept_of simulator_is_an_instrument.instrument u x field
