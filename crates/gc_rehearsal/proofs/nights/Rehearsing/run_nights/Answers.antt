use Rattle.gc_rehearsal.proofs.Running.{runs_unless_altered}
use Rattle.gc_rehearsal.proofs.nights.Rehearsing.run_nights.Goals as goal

pub returns : goal.returns
returns g c =
    runs_unless_altered c.args.programme.alters c.args.programme.tasks.now c.args.self.now.link.carried c.run_each_night-end.new.self.link.carried
    c.acts_are_of_line.ensures c.requires c.run_each_night-end.ensures
