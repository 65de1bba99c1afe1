use Rattle.gc_rehearsal.proofs.Common.{ap, texts}
use Rattle.gc_rehearsal.proofs.Happened.{loses_down}
use Rattle.gc_rehearsal.proofs.carried.Carried.lose_replies.Goals as goal

pub invariant_of-self : goal.invariant_of-self
invariant_of-self c sure =
    let i = c.self.inside in
    loses_down i.history.acts (texts i.traffic.up.items) (texts i.traffic.down.items) _ i.traffic.instrument (ap texts c.clear.ensures.items) (c.self.invariant sure)
