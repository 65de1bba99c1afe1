use Rattle.gc_scenes.proofs.Common.{◌≡◌, ◌++◌, ◌≤◌, drop, length, counted}
use Rattle.gc_scenes.proofs.instrument.counted.Given as goal

-- the faults counted so far, and those that are left, counted, are all faults, counted; and there are at most as many as were
-- looked at
abbrev pub invariant-loop-fault : goal.invariant-loop-fault
invariant-loop-fault l = (l.all.items ++ counted l.rpc (drop l.fault-index l.faults) ≡ counted l.rpc l.faults) × (length l.all.items ≤ l.fault-index)
