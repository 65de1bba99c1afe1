use Rattle.gc_rehearsal.proofs.Common.{take, AllByRecursion, IsAskable}
use Rattle.gc_rehearsal.proofs.askable.commands_are_askable.Given as goal

-- the commands so far can be asked
abbrev pub invariant-loop-task : goal.invariant-loop-task
invariant-loop-task l = AllByRecursion IsAskable (take l.task-index l.commands)
