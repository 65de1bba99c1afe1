use Rattle.gc_lines.proofs.Plain.{plain_line}
use Rattle.gc_lines.proofs.laws.plain_is_one_line.Goals as goal

pub returns : goal.returns
returns c = plain_line
