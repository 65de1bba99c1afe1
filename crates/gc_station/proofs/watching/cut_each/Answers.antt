use Rattle.gc_station.proofs.Common.{cut_to}
use Rattle.gc_station.proofs.Freshness.{next_is_mapped}
use Rattle.gc_station.proofs.watching.cut_each.Goals as goal

pub loop-watch-preserved : goal.loop-watch-preserved
loop-watch-preserved c =
    next_is_mapped (cut_to c.args.now) _ c.loop-watch.watch-items c.loop-watch.watch-index _ c.cut_to.result c.loop-watch.invariant c.loop-watch-test.true c.cut_to.ensures
