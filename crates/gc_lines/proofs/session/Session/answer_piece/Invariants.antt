use Rattle.gc_lines.proofs.Common.{◌≡◌, ◌+◌, ◌≤◌, List, ℕ, length, StandsFor, HasRoomForText, session_progress}
use Rattle.gc_lines.proofs.Passing.{PieceAnswered}
use Rattle.gc_lines.proofs.session.Session.answer_piece.Given as goal

abbrev pub invariant-loop-left : goal.invariant-loop-left
invariant-loop-left g l = record {
  count : l.self.replies + length l.self.lengths + length l.left ≤ l.initial.self.replies + length l.fn.piece;
  room : HasRoomForText l.self;
  gathers : l.self.gathers ≡ l.initial.self.gathers;
  failed : g.K.Sink.failed l.sink ≡ g.K.Sink.failed l.initial.sink;
  going : (rest : List ℕ) → StandsFor l.initial.self.assembler rest → PieceAnswered g.A.Answers.answers rest l.fn.piece l.left
      (session_progress g.K.Sink l.initial.answerer l.initial.sink l.initial.self) (session_progress g.K.Sink l.answerer l.sink l.self) l.self;
}

abbrev pub decreases-loop-left : goal.decreases-loop-left
decreases-loop-left g l = length l.left
