use Rattle.gc_instrument.proofs.Common.{refl}
use Rattle.gc_instrument.proofs.Executions.{restarted_fits}
use Rattle.gc_instrument.proofs.laws.restarts.Goals as goal

pub returns : goal.returns
returns c = record { twice = λ s. refl; fits = restarted_fits }
