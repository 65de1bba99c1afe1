use Rattle.gc_measuring.proofs.Common.{◌≡◌, drop, lost_by}
use Rattle.gc_measuring.proofs.bound.lost_by.Given as goal

-- the time by the tasks still to come is that by all of them
abbrev pub invariant-loop-task : goal.invariant-loop-task
invariant-loop-task l = lost_by l.lost l.left l.time (drop l.task-index l.tasks) ≡ lost_by 0 l.count l.time l.tasks
