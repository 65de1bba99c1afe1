use Rattle.gc_station.proofs.Freshness.{oldest_more}
use Rattle.gc_station.proofs.watching.oldest_of.Goals as goal

pub loop-watch-preserved : goal.loop-watch-preserved
loop-watch-preserved c =
    oldest_more c.args.watches.now c.loop-watch.watch-index _ c.older.result c.loop-watch.found c.loop-watch-test.true c.loop-watch.invariant c.older.ensures
