use Rattle.gc_station.proofs.Common.{◌≡◌, ◌≤◌, ◌-◌, ℕ, List, Option, length, drop, Model, Refines, Took}
use Rattle.gc_station.proofs.Hearing.{HeardSoFar}
use Rattle.gc_station.proofs.station.Station.listen.Given as goal

-- the first `at` bytes of the piece were heard (`HeardSoFar`), and their records are in the book, which writes records as at first and
-- has failed exactly if it had at first
abbrev pub invariant-loop-at : goal.invariant-loop-at
invariant-loop-at g l = record {
  within : l.at ≤ length l.piece;
  hearing : (s : Model) (start : Option (List ℕ)) → Refines l.initial.self s → Took (g.B.Book.text l.initial.book) start (g.B.Book.taken l.initial.book) s
      → HeardSoFar l.begun (g.B.Book.text l.initial.book) start (g.B.Book.taken l.book) l.self s l.piece (drop l.at l.piece);
  form : g.B.Book.text l.book ≡ g.B.Book.text l.initial.book;
  failed : g.B.Book.failed l.book ≡ g.B.Book.failed l.initial.book;
}

-- how many bytes of the piece are left
abbrev pub decreases-loop-at : goal.decreases-loop-at
decreases-loop-at g l = length l.piece - l.at
