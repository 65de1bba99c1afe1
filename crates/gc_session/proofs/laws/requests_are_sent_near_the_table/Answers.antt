use Rattle.gc_session.proofs.Lawful.{near}
use Rattle.gc_session.proofs.laws.requests_are_sent_near_the_table.Goals as goal

pub returns : goal.returns
returns c = near
