use Rattle.gc_scenes.proofs.StartLaws.{starts_anew}
use Rattle.gc_scenes.proofs.laws.starts_keep_no_reply.Goals as goal

pub returns : goal.returns
returns c = starts_anew
