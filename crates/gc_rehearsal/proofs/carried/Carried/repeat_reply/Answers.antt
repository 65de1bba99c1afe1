use Rattle.gc_rehearsal.proofs.Common.{texts}
use Rattle.gc_rehearsal.proofs.Happened.{repeats_down}
use Rattle.gc_rehearsal.proofs.carried.Carried.repeat_reply.Goals as goal

pub invariant_of-self : goal.invariant_of-self
invariant_of-self c sure =
    let i = c.self.inside in
    repeats_down i.history.acts (texts i.traffic.up.items) i.traffic.down.items _ i.traffic.instrument c.repeat_last.ensures (c.self.invariant sure)
