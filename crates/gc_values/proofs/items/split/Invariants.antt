use Rattle.gc_values.proofs.Common.{◌≡◌, length, map}
use Rattle.gc_values.proofs.ParamLists.{SplitSoFar}
use Rattle.gc_values.proofs.items.split.Given as goal

abbrev pub invariant-loop : goal.invariant-loop
invariant-loop l = SplitSoFar l.params (map (λ r. r.now) l.slices.items) l.rest × (length l.slices.items ≡ l.counter)
