use Rattle.gc_rows.proofs.Lookup.{records_read_back}
use Rattle.gc_rows.proofs.laws.records_read_back.Goals as goal

pub returns : goal.returns
returns c = records_read_back
