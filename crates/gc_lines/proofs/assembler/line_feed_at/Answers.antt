use Rattle.gc_lines.proofs.Common.{is_line_feed}
use Rattle.gc_lines.proofs.Finding.{first_position}
use Rattle.gc_lines.proofs.assembler.line_feed_at.Goals as goal

pub returns-clause-at : goal.returns-clause-at
returns-clause-at c = first_position is_line_feed c.args.piece.now c.memchr.result c.memchr.ensures
