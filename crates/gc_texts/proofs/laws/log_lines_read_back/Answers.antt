use Rattle.gc_texts.proofs.LogStamps.{log_lines_read_back}
use Rattle.gc_texts.proofs.laws.log_lines_read_back.Goals as goal

pub returns : goal.returns
returns c = log_lines_read_back
