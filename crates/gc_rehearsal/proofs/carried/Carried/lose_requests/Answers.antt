use Rattle.gc_rehearsal.proofs.Common.{ap, texts}
use Rattle.gc_rehearsal.proofs.Happened.{loses_up}
use Rattle.gc_rehearsal.proofs.carried.Carried.lose_requests.Goals as goal

pub invariant_of-self : goal.invariant_of-self
invariant_of-self c sure =
    let i = c.self.inside in
    loses_up i.history.acts (texts i.traffic.up.items) _ (texts i.traffic.down.items) i.traffic.instrument (ap texts c.clear.ensures.items) (c.self.invariant sure)
