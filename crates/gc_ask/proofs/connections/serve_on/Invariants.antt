use Rattle.gc_ask.proofs.Common.{◌≤◌, ServesWell}
use Rattle.gc_ask.proofs.connections.serve_on.Given as goal

-- `at` connections were served, and serving each ended well
abbrev pub invariant-loop-at : goal.invariant-loop-at
invariant-loop-at g l = record {
  within : l.at ≤ l.connections;
  well : ServesWell g.I.Answers.answers g.I.Simulates.restarted l.max_reads l.at l.initial.instrument l.instrument;
}
