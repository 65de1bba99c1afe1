use Rattle.std.proofs.Common.{◌≡◌, ◌≤◌, ◌-◌, length}
use Rattle.gc_probes.proofs.pipe.Pipe.give.Given as goal

-- `n` bytes of the buffer, at most all, are written, and it is as long as before
abbrev pub invariant-loop-n : goal.invariant-loop-n
invariant-loop-n l = (l.n ≤ length l.buf) × (length l.buf ≡ length l.initial.buf)

-- how many bytes of the buffer aren't written yet
abbrev pub decreases-loop-n : goal.decreases-loop-n
decreases-loop-n l = length l.initial.buf - l.n
