use Rattle.gc_texts.proofs.Common.{◌-◌, length}
use Rattle.gc_texts.proofs.Laying.{Lays}
use Rattle.gc_texts.proofs.attempts.lay_out.Given as goal

-- the chains before the one that begins at `from` were appended
abbrev pub invariant-loop-place : goal.invariant-loop-place
invariant-loop-place l = Lays l.initial.tasks.items l.tasks.items l.cycle l.retry l.agree l.from l.place

-- each command that is passed leaves one less
abbrev pub decreases-loop-place : goal.decreases-loop-place
decreases-loop-place l = length l.cycle - l.place
