use Rattle.gc_logs.proofs.Common.{◌≡◌, take, entries, pending_after, TakesEntries}
use Rattle.gc_logs.proofs.logging.Unwritten.add_all.Given as goal

-- the lines that the bytes so far give were taken, and what these leave pending is pending
abbrev pub invariant-loop-b : goal.invariant-loop-b
invariant-loop-b g l = record {
  took : TakesEntries g.K.Sink l.initial.lines l.lines (entries l.way l.initial.self (take l.b-index l.bytes));
  pending : l.self ≡ pending_after l.initial.self (take l.b-index l.bytes);
}
