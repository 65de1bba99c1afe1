use Rattle.gc_rehearsal.proofs.rule.read_frequency.Goals as goal

pub returns-in-Share : goal.returns-in-Share
returns-in-Share c = rw c.in-Share.is c.read_percentage.ensures
