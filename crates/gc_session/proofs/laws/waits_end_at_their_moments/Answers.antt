use Rattle.gc_session.proofs.Waits.{waits_end}
use Rattle.gc_session.proofs.laws.waits_end_at_their_moments.Goals as goal

pub returns : goal.returns
returns c = waits_end
