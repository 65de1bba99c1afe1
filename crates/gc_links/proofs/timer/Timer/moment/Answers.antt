use Rattle.gc_links.proofs.Clocking.{missed_wall}
use Rattle.gc_links.proofs.timer.Timer.moment.Goals as goal

pub returns-in_default-wall : goal.returns-in_default-wall
returns-in_default-wall g c =
    missed_wall c.monotonic.result c.in-Ok.now c.wall.result c.in_default-wall.field-0 c.in-Ok.is c.monotonic.ensures c.in_default-wall.is
    c.wall.ensures
