use Rattle.gc_values.proofs.NearLemmas.{near_is_within}
use Rattle.gc_values.proofs.decimal_laws.near_is_within_the_tolerance.Goals as goal

pub returns : goal.returns
returns c = near_is_within
