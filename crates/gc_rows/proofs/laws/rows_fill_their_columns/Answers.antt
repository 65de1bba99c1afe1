use Rattle.gc_rows.proofs.ProcedureQuantities.{each_row_fills_its_columns}
use Rattle.gc_rows.proofs.laws.rows_fill_their_columns.Goals as goal

pub returns : goal.returns
returns c = each_row_fills_its_columns
