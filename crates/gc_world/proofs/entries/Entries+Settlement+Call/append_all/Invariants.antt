use Rattle.gc_world.proofs.Common.{◌≡◌, ◌++◌, take}
use Rattle.gc_world.proofs.entries.«Entries+Settlement+Call».append_all.Given as goal

-- those that were taken so far are appended
abbrev pub invariant-loop-settlement : goal.invariant-loop-settlement
invariant-loop-settlement l = record { items : l.self ≡ l.fn.self ++ take l.settlement-index l.settlements }
