use Rattle.gc_links.proofs.Common.{length, ◌+◌, ◌-◌, ◌≤◌, wired_end, Makes, Sends}
use Rattle.std.proofs.Common.{drop}
use Rattle.gc_links.proofs.wiring.send_over.Given as goal

abbrev pub invariant-loop-at : goal.invariant-loop-at
invariant-loop-at g l = record {
  within : l.at ≤ length l.fn.bytes;
  few : l.interruptions ≤ 1000;
  sends : Makes l.fn.system.calls.made l.system.calls.made (λ calls. Sends (wired_end l.fn.wired) l.fn.bytes calls (drop l.at l.fn.bytes));
}

abbrev pub decreases-loop-at : goal.decreases-loop-at
decreases-loop-at g l = (length l.bytes - l.at) + (1000 - l.interruptions)
