use Rattle.gc_instrument.proofs.Keeping.{executes_apart}
use Rattle.gc_instrument.proofs.laws.executes_apart.Goals as goal

pub returns : goal.returns
returns c = executes_apart
