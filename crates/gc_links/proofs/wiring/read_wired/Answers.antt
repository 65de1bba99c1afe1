use Rattle.gc_links.proofs.Common.{sym, subst, instant_nanos, read_act, open_end, Makes, DoesOver}
use Rattle.gc_links.proofs.wiring.read_wired.Goals as goal

pub returns-in-None-clause-does : goal.returns-in-None-clause-does
returns-in-None-clause-does g c =
    subst (λ stream. Makes c.args.system.now.calls.made c.wait.new.system.calls.made
    (DoesOver (instant_nanos c.args.timer.now.start) (open_end stream) (read_act c.wait.result c.args.buf.now)))
    (sym c.in-None.is) (c.wait.ensures.does c.args.buf.now)
