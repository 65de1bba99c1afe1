use Rattle.gc_rehearsal.proofs.Common.{AddRuns}
use Rattle.gc_rehearsal.proofs.nights.Rehearsing.run_night.Given as goal

-- what the link recorded so far is what runs recorded
abbrev pub invariant-loop : goal.invariant-loop
invariant-loop g l = AddRuns l.programme.tasks.now l.fn.self.link.carried l.self.link.carried
