use Rattle.gc_rows.proofs.JsonLines.{json_lines_read_back}
use Rattle.gc_rows.proofs.laws.json_lines_read_back.Goals as goal

pub returns : goal.returns
returns c = json_lines_read_back
