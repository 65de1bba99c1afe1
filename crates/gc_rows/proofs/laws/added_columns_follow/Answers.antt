use Rattle.gc_rows.proofs.DescribedColumns.{added_follow}
use Rattle.gc_rows.proofs.laws.added_columns_follow.Goals as goal

pub returns : goal.returns
returns c = added_follow
