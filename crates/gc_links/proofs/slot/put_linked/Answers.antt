use Rattle.gc_links.proofs.Common.{sym, subst, put_act, Makes, DoesOver, linked_end, hold_of}
use Rattle.gc_links.proofs.slot.put_linked.Goals as goal

pub returns-in-Linked-clause-does : goal.returns-in-Linked-clause-does
returns-in-Linked-clause-does g c start =
    subst (λ slot. Makes c.args.system.now.calls.made c.send_serial.new.system.calls.made
    (DoesOver start (linked_end (hold_of slot)) (put_act c.send_serial.result c.args.bytes.now)))
    (sym c.in-Linked.is) (c.send_serial.ensures.does start)

pub returns-in-Gone-clause-does : goal.returns-in-Gone-clause-does
returns-in-Gone-clause-does g c start =
    subst (λ slot. Makes c.args.system.now.calls.made c.send_serial-in-Gone.new.system.calls.made
    (DoesOver start (linked_end (hold_of slot)) (put_act c.send_serial-in-Gone.result c.args.bytes.now)))
    (sym c.in-Gone.is) (c.send_serial-in-Gone.ensures.does start)
