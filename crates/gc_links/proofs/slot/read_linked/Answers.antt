use Rattle.gc_links.proofs.Common.{sym, subst, instant_nanos, read_act, Makes, DoesOver, linked_end, hold_of}
use Rattle.gc_links.proofs.slot.read_linked.Goals as goal

pub returns-in-Empty-clause-does : goal.returns-in-Empty-clause-does
returns-in-Empty-clause-does g c =
    subst (λ slot. Makes c.args.system.now.calls.made c.wait.new.system.calls.made
    (DoesOver (instant_nanos c.args.timer.now.start) (linked_end (hold_of slot)) (read_act c.wait.result c.args.buf.now)))
    (sym c.in-Empty.is) (c.wait.ensures.does c.args.buf.now)

pub returns-in-Aside-clause-does : goal.returns-in-Aside-clause-does
returns-in-Aside-clause-does g c =
    subst (λ slot. Makes c.args.system.now.calls.made c.wait-in-Aside.new.system.calls.made
    (DoesOver (instant_nanos c.args.timer.now.start) (linked_end (hold_of slot)) (read_act c.wait-in-Aside.result c.args.buf.now)))
    (sym c.in-Aside.is) (c.wait-in-Aside.ensures.does c.args.buf.now)
