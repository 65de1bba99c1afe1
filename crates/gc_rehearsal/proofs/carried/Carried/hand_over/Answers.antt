use Rattle.gc_rehearsal.proofs.Happened.{hands_front_over}
use Rattle.gc_rehearsal.proofs.carried.Carried.hand_over.Goals as goal

pub invariant_of-self : goal.invariant_of-self
invariant_of-self c sure =
    let i = c.self.inside in
    hands_front_over i.history.acts i.traffic _ c.hand_over.ensures (c.self.invariant sure)
