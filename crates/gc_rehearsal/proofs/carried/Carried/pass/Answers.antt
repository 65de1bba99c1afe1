use Rattle.gc_rehearsal.proofs.Common.{texts}
use Rattle.gc_rehearsal.proofs.Happened.{sets_clock}
use Rattle.gc_rehearsal.proofs.carried.Carried.pass.Goals as goal

pub invariant_of-self : goal.invariant_of-self
invariant_of-self c sure =
    let i = c.self.inside in
    sets_clock i.history.acts c.args.moment (texts i.traffic.up.items) (texts i.traffic.down.items) i.traffic.instrument _ c.set_moment.ensures (c.self.invariant sure)
