use Rattle.gc_texts.proofs.Common.{rules}
use Rattle.gc_texts.proofs.Placing.{next_is_placed}
use Rattle.gc_texts.proofs.tasks.place_tasks.Goals as goal

pub loop-task-preserved : goal.loop-task-preserved
loop-task-preserved c =
    next_is_placed c.args.nears.now c.args.unwatched.now c.args.described.now _ c.loop-task.task-items c.loop-task.task-index c.task-item.result _ c.loop-task.invariant c.loop-task-test.true (search rules)
