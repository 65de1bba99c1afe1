use Rattle.gc_ask.proofs.Common.{◌≤◌, ServesWell}
use Rattle.gc_ask.proofs.devices.serve_device.Given as goal

-- so many connections were served as the loop had turns, and serving each ended well
abbrev pub invariant-loop : goal.invariant-loop
invariant-loop g l = record {
  within : l.counter ≤ l.connections;
  well : ServesWell g.I.Answers.answers g.I.Simulates.restarted l.max_reads l.counter l.initial.instrument l.instrument;
}
