use Rattle.gc_texts.proofs.Common.{◌≡◌}
use Rattle.gc_texts.proofs.Placing.{first_placed}
use Rattle.gc_texts.proofs.tasks.place_tasks.Given as goal

-- the tasks before this one have their places, and the others are as they were
abbrev pub invariant-loop-task : goal.invariant-loop-task
invariant-loop-task l = l.task-items ≡ first_placed l.nears l.unwatched l.described l.task-index l.initial.task-items
