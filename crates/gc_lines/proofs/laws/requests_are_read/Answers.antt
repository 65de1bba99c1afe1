use Rattle.gc_lines.proofs.Reading.{reads_exactly}
use Rattle.gc_lines.proofs.Requests.{request_reads}
use Rattle.gc_lines.proofs.laws.requests_are_read.Goals as goal

pub returns : goal.returns
returns c = reads_exactly request_reads
