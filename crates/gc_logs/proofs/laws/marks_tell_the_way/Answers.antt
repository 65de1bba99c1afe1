use Rattle.gc_logs.proofs.Ways.{tell_the_way}
use Rattle.gc_logs.proofs.laws.marks_tell_the_way.Goals as goal

pub returns : goal.returns
returns c = tell_the_way
