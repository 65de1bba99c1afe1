use Rattle.gc_links.proofs.Common.{instant_nanos, wired_end}
use Rattle.gc_links.proofs.Reading.{came_then, clocks_then, clocks_missed, quiet_after}
use Rattle.gc_links.proofs.wiring.read_briefly.Goals as goal

pub returns-in_default-clause-does : goal.returns-in_default-clause-does
returns-in_default-clause-does g c =
    clocks_missed (instant_nanos c.args.timer.now.start) (wired_end c.args.wired.now) c.in_default.ensures

pub returns-in-Came-clause-does : goal.returns-in-Came-clause-does
returns-in-Came-clause-does g c =
    let start = instant_nanos c.args.timer.now.start in
    let end = wired_end c.args.wired.now in
    clocks_then start end c.in-Ok.moment c.read.new.buf c.came.result c.in-Ok.ensures
    (came_then start end c.in-Came.n c.read.new.buf c.came.result c.in-Came.ensures.within c.in-Came.ensures.tells c.came.ensures.does)

pub returns-in-CameNone-clause-does : goal.returns-in-CameNone-clause-does
returns-in-CameNone-clause-does g c =
    quiet_after (instant_nanos c.args.timer.now.start) (wired_end c.args.wired.now) c.in-Ok.moment c.in-Ok.ensures
    c.in-CameNone.ensures.tells
