use Rattle.gc_texts.proofs.LogStamps.{log_lines_are_printable}
use Rattle.gc_texts.proofs.laws.log_lines_are_printable.Goals as goal

pub returns : goal.returns
returns c = log_lines_are_printable
