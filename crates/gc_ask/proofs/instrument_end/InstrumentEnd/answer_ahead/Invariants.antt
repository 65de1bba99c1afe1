use Rattle.gc_ask.proofs.Common.{◌≤◌, ◌-◌, length}
use Rattle.gc_ask.proofs.instrument_end.InstrumentEnd.answer_ahead.Given as goal

-- no more bytes were taken than there are
abbrev pub invariant-loop-at : goal.invariant-loop-at
invariant-loop-at g l = l.at ≤ length l.left

-- how many bytes are left
abbrev pub decreases-loop-at : goal.decreases-loop-at
decreases-loop-at g l = length l.left - l.at
