use Rattle.gc_ask.proofs.Common.{◌≤◌, ◌-◌, List, ℕ, length, drop, StandsFor, heard_by}
use Rattle.gc_ask.proofs.FirstReplies.{Passed}
use Rattle.gc_ask.proofs.client_end.ClientEnd.listen.Given as goal

-- the first `at` bytes of the piece were passed: no line of them settles anything (`Passed`)
abbrev pub invariant-loop-at : goal.invariant-loop-at
invariant-loop-at l = record {
  within : l.at ≤ length l.piece;
  passed : (rest : List ℕ) → StandsFor l.initial.self.assembler rest → Passed l.initial.self.client.ids (heard_by l.self rest l.piece (drop l.at l.piece));
}

-- how many bytes of the piece are left
abbrev pub decreases-loop-at : goal.decreases-loop-at
decreases-loop-at l = length l.piece - l.at
