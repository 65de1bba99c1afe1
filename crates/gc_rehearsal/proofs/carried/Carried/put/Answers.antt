use Rattle.gc_rehearsal.proofs.Common.{sym, subst, HasComeTo, texts}
use Rattle.gc_rehearsal.proofs.Happened.{lines, put_may_arrive}
use Rattle.gc_rehearsal.proofs.carried.Carried.put.Goals as goal

pub invariant_of-self : goal.invariant_of-self
invariant_of-self c sure =
    let i = c.self.inside in
    let up = c.add_request.new.queue.items in
    subst (λ acts. HasComeTo acts (lines (texts up) (texts i.traffic.down.items) i.traffic.instrument)) (sym c.then-self-inside.ensures)
    (put_may_arrive i.history.acts c.args.bytes.now i.traffic.up.items up (texts i.traffic.down.items) i.traffic.instrument c.add_request.ensures (c.self.invariant sure))
