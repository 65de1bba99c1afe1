use Rattle.gc_scenes.proofs.Common.{arith}
use Rattle.gc_scenes.proofs.Days.{one_day_later}
use Rattle.gc_scenes.proofs.clock.days_on.Goals as goal

pub loop-passed-preserved : goal.loop-passed-preserved
loop-passed-preserved c =
    (one_day_later c.loop-passed.passed c.args.date.now c.loop-passed.day c.next_day-day.result c.loop-passed.invariant.0 c.next_day-day.ensures, omega (arith, c.loop-passed-test.true))
