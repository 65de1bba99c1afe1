use Rattle.gc_rows.proofs.DescribedColumns.{columns_hold}
use Rattle.gc_rows.proofs.laws.described_columns_hold_their_values.Goals as goal

pub returns : goal.returns
returns c = columns_hold
