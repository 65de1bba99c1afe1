use Rattle.gc_links.proofs.Common.{open_end}
use Rattle.gc_links.proofs.Opening.{refused, dropped_again, opened}
use Rattle.gc_links.proofs.wiring.renew.Goals as goal

pub returns-in_default : goal.returns-in_default
returns-in_default g c start = refused c.args.peer start (open_end c.args.stream.now) c.in_default.ensures

pub returns-then-is_err : goal.returns-then-is_err
returns-then-is_err g c start =
    dropped_again c.args.peer start (open_end c.args.stream.now) c.in-Ok.wired c.in-Ok.ensures c.hang_up.ensures

pub returns : goal.returns
returns g c start =
    opened c.args.peer start (open_end c.args.stream.now) (open_end c.hang_up-2.new.stream) c.in-Ok.wired c.in-Ok.ensures
    (c.hang_up-2.ensures c.args.peer start)
