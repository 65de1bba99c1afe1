use Rattle.gc_rows.proofs.Rows.{rows_read_back}
use Rattle.gc_rows.proofs.laws.rows_read_back.Goals as goal

pub returns : goal.returns
returns c = rows_read_back
