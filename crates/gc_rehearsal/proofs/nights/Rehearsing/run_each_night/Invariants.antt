use Rattle.gc_rehearsal.proofs.Common.{AddRuns}
use Rattle.gc_rehearsal.proofs.nights.Rehearsing.run_each_night.Given as goal

-- what the link recorded so far is what runs recorded
abbrev pub invariant-loop-night : goal.invariant-loop-night
invariant-loop-night g l = AddRuns l.programme.tasks.now l.fn.self.link.carried l.self.link.carried
