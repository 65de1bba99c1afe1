use Rattle.gc_filters.proofs.Common.{◌≡◌, ◌+◌, ◌≤◌, length, option_copied, bytes_left, texts_in}
use Rattle.gc_texts.proofs.TextLines.{much_left}
use Rattle.gc_filters.proofs.LogVerdicts.{Walks}
use Rattle.gc_filters.proofs.check_log.LogCheck.check_piece.Given as goal

-- the lines that end before what is left of the piece were judged; at most one text for each byte went out or waits; and whether the
-- sink has failed is as at the start
abbrev pub invariant-loop-left : goal.invariant-loop-left
invariant-loop-left g l = record {
  so : Walks l.initial.self l.self l.fn.piece (option_copied l.left) (g.K.Sink.taken l.initial.sink) (g.K.Sink.taken l.sink);
  failed : g.K.Sink.failed l.sink ≡ g.K.Sink.failed l.initial.sink;
  few : texts_in l.self + bytes_left (option_copied l.left) ≤ l.initial.self.replies + length l.fn.piece;
}

-- each line that is taken leaves less of the piece
abbrev pub decreases-loop-left : goal.decreases-loop-left
decreases-loop-left g l = much_left (option_copied l.left)
