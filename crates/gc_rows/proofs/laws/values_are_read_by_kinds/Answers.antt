use Rattle.gc_rows.proofs.ValueReading.{values_are_read}
use Rattle.gc_rows.proofs.laws.values_are_read_by_kinds.Goals as goal

pub returns : goal.returns
returns c = values_are_read
