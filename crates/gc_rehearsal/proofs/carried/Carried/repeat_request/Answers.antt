use Rattle.gc_rehearsal.proofs.Common.{texts}
use Rattle.gc_rehearsal.proofs.Happened.{repeats_up}
use Rattle.gc_rehearsal.proofs.carried.Carried.repeat_request.Goals as goal

pub invariant_of-self : goal.invariant_of-self
invariant_of-self c sure =
    let i = c.self.inside in
    repeats_up i.history.acts i.traffic.up.items _ (texts i.traffic.down.items) i.traffic.instrument c.repeat_last.ensures (c.self.invariant sure)
