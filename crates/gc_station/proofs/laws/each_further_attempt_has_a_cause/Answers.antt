use Rattle.gc_station.proofs.Retrying.{goes_out_again}
use Rattle.gc_station.proofs.laws.each_further_attempt_has_a_cause.Goals as goal

pub returns : goal.returns
returns c = goes_out_again
