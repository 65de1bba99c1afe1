use Rattle.gc_station.proofs.Common.{◌≡◌, ◌==◌, renewed_if, Watch}
use Rattle.gc_station.proofs.Freshness.{first_mapped}
use Rattle.gc_station.proofs.watching.renew_each.Given as goal

-- the watched commands before this one are changed, and the others are as they were
abbrev pub invariant-loop-watch : goal.invariant-loop-watch
invariant-loop-watch l = l.watch-items ≡ first_mapped (λ (w : Watch). renewed_if (w.place == l.place) l.now.elapsed l.now.utc w) l.watch-index l.initial.watch-items
