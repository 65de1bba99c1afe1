use Rattle.gc_links.proofs.Common.{sym, subst, put_act, open_end, Makes, DoesOver}
use Rattle.gc_links.proofs.wiring.send.Goals as goal

pub returns-in-Some-clause-does : goal.returns-in-Some-clause-does
returns-in-Some-clause-does g c start =
    subst (λ stream. Makes c.args.system.now.calls.made c.send_over.new.system.calls.made
    (DoesOver start (open_end stream) (put_act c.send_over.result c.args.bytes.now)))
    (sym c.in-Some.is) (c.send_over.ensures.does start)
