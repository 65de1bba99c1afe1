use Rattle.gc_station.proofs.Common.{◌≡◌, cut_to}
use Rattle.gc_station.proofs.Freshness.{first_mapped}
use Rattle.gc_station.proofs.watching.cut_each.Given as goal

-- the watched commands before this one are changed, and the others are as they were
abbrev pub invariant-loop-watch : goal.invariant-loop-watch
invariant-loop-watch l = l.watch-items ≡ first_mapped (cut_to l.now) l.watch-index l.initial.watch-items
