use Rattle.gc_measuring.proofs.ValueCounts.{answers_have_their_count}
use Rattle.gc_measuring.proofs.laws.answers_have_their_count.Goals as goal

pub returns : goal.returns
returns c = answers_have_their_count
