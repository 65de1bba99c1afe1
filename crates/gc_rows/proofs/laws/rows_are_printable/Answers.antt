use Rattle.gc_rows.proofs.Rows.{rows_are_printable}
use Rattle.gc_rows.proofs.laws.rows_are_printable.Goals as goal

pub returns : goal.returns
returns c = rows_are_printable
