use Rattle.gc_scenes.proofs.Turns.{one_reply}
use Rattle.gc_scenes.proofs.laws.one_reply.Goals as goal

pub returns : goal.returns
returns c = one_reply
