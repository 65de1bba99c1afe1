use Rattle.gc_values.proofs.ItemLaws.{written_is_read}
use Rattle.gc_values.proofs.laws.written_is_read.Goals as goal

pub returns : goal.returns
returns c = written_is_read
