use Rattle.gc_rows.proofs.Columns.{reply_columns}
use Rattle.gc_rows.proofs.laws.columns_are_a_replys_fields.Goals as goal

pub returns : goal.returns
returns c = reply_columns
