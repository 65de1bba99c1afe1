use Rattle.gc_station.proofs.Nearly.{at_their_targets}
use Rattle.gc_station.proofs.record_laws.answers_are_at_their_targets.Goals as goal

pub returns : goal.returns
returns c = at_their_targets
