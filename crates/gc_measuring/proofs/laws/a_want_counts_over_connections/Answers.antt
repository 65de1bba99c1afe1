use Rattle.gc_measuring.proofs.Wants.{want_stays}
use Rattle.gc_measuring.proofs.laws.a_want_counts_over_connections.Goals as goal

pub returns : goal.returns
returns c = want_stays
