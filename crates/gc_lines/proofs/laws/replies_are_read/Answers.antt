use Rattle.gc_lines.proofs.Reading.{reads_exactly}
use Rattle.gc_lines.proofs.Replies.{reply_reads}
use Rattle.gc_lines.proofs.laws.replies_are_read.Goals as goal

pub returns : goal.returns
returns c = reads_exactly reply_reads
