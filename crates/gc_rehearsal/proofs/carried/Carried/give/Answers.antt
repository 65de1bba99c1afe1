use Rattle.gc_rehearsal.proofs.Common.{take, sym, ◌∙◌, ap, subst, HasComeTo, texts}
use Rattle.gc_rehearsal.proofs.Happened.{gives_front, lines, loses_front}
use Rattle.gc_rehearsal.proofs.carried.Carried.give.Goals as goal

pub invariant_of-self-then-buf-n : goal.invariant_of-self-then-buf-n
invariant_of-self-then-buf-n c sure =
    let i = c.self.inside in
    loses_front i.history.acts (texts i.traffic.up.items) i.traffic.down.items c.pop_front.new.self.items c.in_ok-flight.flight i.traffic.instrument c.in_ok-flight.ensures.items (c.self.invariant sure)

pub invariant_of-self-2 : goal.invariant_of-self-2
invariant_of-self-2 c sure =
    let i = c.self.inside in
    let down = c.pop_front.new.self.items in
    let is = ap (λ n. take n c.write_into.new.buf) c.len_with_end-n.ensures ∙ c.write_into.ensures.bytes in
    subst (λ acts. HasComeTo acts (lines (texts i.traffic.up.items) (texts down) i.traffic.instrument)) (sym c.then-self-inside.ensures)
    (gives_front i.history.acts (take c.len_with_end-n.result c.write_into.new.buf) c.args.moment (texts i.traffic.up.items) i.traffic.down.items down c.in_ok-flight.flight i.traffic.instrument
    c.in_ok-flight.ensures.items is (c.self.invariant sure))
