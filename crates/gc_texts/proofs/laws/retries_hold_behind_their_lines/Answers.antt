use Rattle.gc_texts.proofs.Chained.{retries_hold}
use Rattle.gc_texts.proofs.laws.retries_hold_behind_their_lines.Goals as goal

pub returns : goal.returns
returns c = retries_hold
