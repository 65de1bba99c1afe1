use Rattle.gc_texts.proofs.Common.{tasks_planned, sendings}
use Rattle.gc_texts.proofs.Laying.{Pushes}
use Rattle.gc_texts.proofs.attempts.push_attempts.Given as goal

-- the attempts before this one were appended
abbrev pub invariant-loop-left : goal.invariant-loop-left
invariant-loop-left l = Pushes l.initial.tasks.items l.tasks.items l.retry (sendings l.agree (tasks_planned l.chain)) l.number l.left

-- each attempt leaves one less
abbrev pub decreases-loop-left : goal.decreases-loop-left
decreases-loop-left l = l.left
