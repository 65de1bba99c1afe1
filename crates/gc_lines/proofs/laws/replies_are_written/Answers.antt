use Rattle.gc_lines.proofs.Written.{reply_written, reply_back}
use Rattle.gc_lines.proofs.Plain.{reply_plain}
use Rattle.gc_lines.proofs.laws.replies_are_written.Goals as goal

pub returns : goal.returns
returns c = record { written = reply_written; back = reply_back; plain = reply_plain }
