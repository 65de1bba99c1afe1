use Rattle.gc_rehearsal.proofs.Common.{texts}
use Rattle.gc_rehearsal.proofs.Happened.{restarts_instrument}
use Rattle.gc_rehearsal.proofs.carried.Carried.restart.Goals as goal

pub invariant_of-self : goal.invariant_of-self
invariant_of-self c sure =
    let i = c.self.inside in
    restarts_instrument i.history.acts (texts i.traffic.up.items) (texts i.traffic.down.items) i.traffic.instrument _ c.restart.ensures (c.self.invariant sure)
