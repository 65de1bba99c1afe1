use Rattle.gc_station.proofs.Common.{◌==◌, renewed_if, Watch}
use Rattle.gc_station.proofs.Freshness.{next_is_mapped}
use Rattle.gc_station.proofs.watching.renew_each.Goals as goal

pub loop-watch-preserved : goal.loop-watch-preserved
loop-watch-preserved c =
    next_is_mapped (λ (w : Watch). renewed_if (w.place == c.args.place) c.args.now.elapsed c.args.now.utc w) _ c.loop-watch.watch-items c.loop-watch.watch-index _ c.renewed_if.result c.loop-watch.invariant c.loop-watch-test.true c.renewed_if.ensures
