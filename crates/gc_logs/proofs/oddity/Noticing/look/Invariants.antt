use Rattle.gc_logs.proofs.Common.{◌≡◌}
use Rattle.gc_logs.proofs.oddity.Noticing.look.Given as goal

-- the link inside is the one that it was at the call
abbrev pub invariant-loop-b : goal.invariant-loop-b
invariant-loop-b g l = record {
  same : l.self.link ≡ l.fn.self.link;
}
