use Rattle.gc_ask.proofs.Common.{◌≤◌, KeepsCallers}
use Rattle.gc_ask.proofs.callers.keep.Given as goal

-- `at` callers were served, as `KeepsCallers` says
abbrev pub invariant-loop-at : goal.invariant-loop-at
invariant-loop-at g l = record {
  within : l.at ≤ l.most;
  kept : KeepsCallers g.C.Callers.serves g.C.Callers.served l.at l.all_written l.initial.callers l.callers (g.E.Write.contents l.initial.messages) (g.E.Write.contents l.messages);
}
