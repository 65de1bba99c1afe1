use Rattle.gc_session.proofs.Lawful.{held_back}
use Rattle.gc_session.proofs.laws.requests_are_held_back.Goals as goal

pub returns : goal.returns
returns c = held_back
