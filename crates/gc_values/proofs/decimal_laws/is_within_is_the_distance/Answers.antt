use Rattle.gc_values.proofs.WithinLemmas.{is_within_exactly}
use Rattle.gc_values.proofs.decimal_laws.is_within_is_the_distance.Goals as goal

pub returns : goal.returns
returns c = is_within_exactly
