use Rattle.gc_texts.proofs.Common.{◌≡◌, ◌++◌, length, map, take, in_attempt, tasks_planned, sent_from}
use Rattle.gc_texts.proofs.attempts.push_sending.Given as goal

-- the tasks of the commands so far were appended
abbrev pub invariant-loop-nth : goal.invariant-loop-nth
invariant-loop-nth l =
    l.tasks.items ≡ l.initial.tasks.items ++ map (in_attempt l.attempt.number l.attempt.again l.attempt.commands)
    (sent_from l.sending (length l.chain) 0 (tasks_planned (take l.nth l.chain)))
