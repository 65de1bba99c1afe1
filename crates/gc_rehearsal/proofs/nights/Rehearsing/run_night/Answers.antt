use Rattle.gc_rehearsal.proofs.Common.{◌≡◌, subst, sym, AddRuns}
use Rattle.gc_rehearsal.proofs.Running.{runs_then}
use Rattle.gc_rehearsal.proofs.nights.Rehearsing.run_night.Goals.{in-Killed, in-GaveUp}
use Rattle.gc_rehearsal.proofs.nights.Rehearsing.run_night.Goals as goal

pub returns-in_err-run_once : goal.returns-in_err-run_once
returns-in_err-run_once g c = runs_then c.args.programme.tasks.now c.args.self.now.link.carried c.loop.self.link.carried c.run_once.new.self.link.carried c.loop.invariant c.run_once.ensures

pub returns-in-Done : goal.returns-in-Done
returns-in-Done g c = runs_then c.args.programme.tasks.now c.args.self.now.link.carried c.loop.self.link.carried c.run_once.new.self.link.carried c.loop.invariant c.run_once.ensures

pub loop-preserved : goal.loop-preserved
loop-preserved g c =
    let same : c.run_once.new.self.link.carried ≡ c.match-branch-2.self.link.carried = elim c.match-branch-2.branch as (λ _. c.run_once.new.self.link.carried ≡ c.match-branch-2.self.link.carried) [
      | in-Killed w ↦ let is = w.self-is in cc
      | in-GaveUp w ↦ rw w.self-is (sym w.wait.ensures)
    ] in
    subst (λ acts. AddRuns c.args.programme.tasks.now c.args.self.now.link.carried acts) same
    (runs_then c.args.programme.tasks.now c.args.self.now.link.carried c.loop.self.link.carried c.run_once.new.self.link.carried c.loop.invariant c.run_once.ensures)
