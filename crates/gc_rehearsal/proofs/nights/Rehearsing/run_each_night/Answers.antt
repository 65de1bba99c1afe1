use Rattle.gc_rehearsal.proofs.Common.{subst, AddRuns}
use Rattle.gc_rehearsal.proofs.Running.{runs_then}
use Rattle.gc_rehearsal.proofs.nights.Rehearsing.run_each_night.Goals as goal

pub returns-in_err-run_night : goal.returns-in_err-run_night
returns-in_err-run_night g c =
    runs_then c.args.programme.tasks.now c.args.self.now.link.carried c.loop-night.self.link.carried c.run_night.new.self.link.carried c.loop-night.invariant
    (subst (λ old. AddRuns c.args.programme.tasks.now old c.run_night.new.self.link.carried) c.wait_until.ensures c.run_night.ensures)

pub loop-night-preserved : goal.loop-night-preserved
loop-night-preserved g c =
    runs_then c.args.programme.tasks.now c.args.self.now.link.carried c.loop-night.self.link.carried c.run_night.new.self.link.carried c.loop-night.invariant
    (subst (λ old. AddRuns c.args.programme.tasks.now old c.run_night.new.self.link.carried) c.wait_until.ensures c.run_night.ensures)
