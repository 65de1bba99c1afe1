use Rattle.gc_session.proofs.Drains.{drained_for_long}
use Rattle.gc_session.proofs.laws.connections_are_drained.Goals as goal

pub returns : goal.returns
returns c = drained_for_long
