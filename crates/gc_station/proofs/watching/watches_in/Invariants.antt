use Rattle.gc_station.proofs.Common.{◌≡◌, map, take, unanswered, watched_in}
use Rattle.gc_station.proofs.watching.watches_in.Given as goal

-- the watched ones of the tasks before this one were appended
abbrev pub invariant-loop-task : goal.invariant-loop-task
invariant-loop-task l = l.watches.items ≡ map unanswered (watched_in (take l.task-index l.tasks))
