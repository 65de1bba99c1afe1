use Rattle.gc_session.proofs.Lawful.{asks_accounted}
use Rattle.gc_session.proofs.laws.settles_the_asks.Goals as goal

pub returns : goal.returns
returns c = asks_accounted
