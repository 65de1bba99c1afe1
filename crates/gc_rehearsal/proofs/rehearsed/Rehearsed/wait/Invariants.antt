use Rattle.gc_rehearsal.proofs.Common.{◌≡◌}
use Rattle.gc_rehearsal.proofs.rehearsed.Rehearsed.wait.Given as goal

-- no act was added
abbrev pub invariant-loop : goal.invariant-loop
invariant-loop g l = l.self.carried ≡ l.initial.self.carried
