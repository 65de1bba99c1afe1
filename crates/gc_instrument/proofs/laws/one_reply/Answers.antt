use Rattle.gc_instrument.proofs.Turns.{one_reply}
use Rattle.gc_instrument.proofs.laws.one_reply.Goals as goal

pub returns : goal.returns
returns c = one_reply
