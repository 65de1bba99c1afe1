use Rattle.gc_session.proofs.Lawful.{own_are_null}
use Rattle.gc_session.proofs.laws.own_requests_are_null_procedures.Goals as goal

pub returns : goal.returns
returns c = own_are_null
