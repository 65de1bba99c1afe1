use Rattle.gc_session.proofs.Stretches.{unbroken}
use Rattle.gc_session.proofs.laws.stretches_are_unbroken.Goals as goal

pub returns : goal.returns
returns c = unbroken
