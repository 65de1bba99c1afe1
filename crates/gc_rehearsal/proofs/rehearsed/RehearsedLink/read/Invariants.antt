use Rattle.gc_rehearsal.proofs.Common.{◌≡◌}
use Rattle.gc_rehearsal.proofs.rehearsed.RehearsedLink.read.Given as goal

-- the read has added no act yet
abbrev pub invariant-loop : goal.invariant-loop
invariant-loop g l = l.self.carried ≡ l.initial.self.carried
