use Rattle.gc_station.proofs.Common.{unanswered, Watch}
use Rattle.gc_station.proofs.Freshness.{next_is_mapped}
use Rattle.gc_station.proofs.watching.begin_each.Goals as goal

pub loop-watch-preserved : goal.loop-watch-preserved
loop-watch-preserved c =
    next_is_mapped (λ (w : Watch). unanswered w.place) _ c.loop-watch.watch-items c.loop-watch.watch-index _ c.unanswered.result c.loop-watch.invariant c.loop-watch-test.true c.unanswered.ensures
