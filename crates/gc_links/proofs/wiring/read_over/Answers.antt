use Rattle.gc_links.proofs.Common.{instant_nanos, wired_end}
use Rattle.gc_links.proofs.Reading.{came_then, none_then}
use Rattle.gc_links.proofs.wiring.read_over.Goals as goal

pub returns-in-Came-clause-does : goal.returns-in-Came-clause-does
returns-in-Came-clause-does g c =
    came_then (instant_nanos c.args.timer.now.start) (wired_end c.args.wired.now) c.in-Came.n c.read.new.buf c.came.result
    c.in-Came.ensures.within c.in-Came.ensures.tells c.came.ensures.does

pub returns-in-CameNone-clause-does : goal.returns-in-CameNone-clause-does
returns-in-CameNone-clause-does g c =
    none_then (instant_nanos c.args.timer.now.start) (wired_end c.args.wired.now) c.read_briefly-in-CameNone.new.buf
    c.read_briefly-in-CameNone.result c.in-CameNone.ensures.tells c.read_briefly-in-CameNone.ensures.does
