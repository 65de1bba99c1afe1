use Rattle.gc_session.proofs.Lawful.{theirs}
use Rattle.gc_session.proofs.laws.sessions_are_their_clients.Goals as goal

pub returns : goal.returns
returns c = theirs
