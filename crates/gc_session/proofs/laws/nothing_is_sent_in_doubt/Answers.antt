use Rattle.gc_session.proofs.Lawful.{none_in_doubt}
use Rattle.gc_session.proofs.laws.nothing_is_sent_in_doubt.Goals as goal

pub returns : goal.returns
returns c = none_in_doubt
