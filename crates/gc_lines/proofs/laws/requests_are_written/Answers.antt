use Rattle.gc_lines.proofs.Written.{request_written, request_back}
use Rattle.gc_lines.proofs.Plain.{request_plain}
use Rattle.gc_lines.proofs.laws.requests_are_written.Goals as goal

pub returns : goal.returns
returns c = record { written = request_written; back = request_back; plain = request_plain }
