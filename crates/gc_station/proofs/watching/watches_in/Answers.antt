use Rattle.gc_station.proofs.Freshness.{watches_more}
use Rattle.gc_station.proofs.watching.watches_in.Goals as goal

pub loop-task-preserved : goal.loop-task-preserved
loop-task-preserved c =
    watches_more c.args.tasks.now c.loop-task.task-index c.task-item.result c.loop-task.watches.items c.push_watched.new.watches.items c.loop-task-test.true c.task-item.is
    c.loop-task.invariant c.in_ok-push_watched.ensures
