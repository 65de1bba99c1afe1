use Rattle.gc_measuring.proofs.Common.{◌≡◌, drop, longest_deadline}
use Rattle.gc_measuring.proofs.plan.longest_deadline.Given as goal

-- the longest of `longest` and the deadlines of the tasks still to come is the longest deadline in use
abbrev pub invariant-loop-task : goal.invariant-loop-task
invariant-loop-task l = longest_deadline l.longest (drop l.task-index l.tasks) ≡ longest_deadline l.deadline l.tasks
