use Rattle.gc_client.proofs.Common.{length, sym, ap, ◌∙◌, arith}
use Rattle.gc_client.proofs.Rounds.{length-waiting, waiting_before_take}
use Rattle.gc_client.proofs.slots.SlotsOfWindow.take_first.Goals as goal

-- those that waited are the oldest, and then the others
pub returns : goal.returns
returns g c =
    let s = c.self.inside in
    let length_old = length-waiting 8 s.oldest s.len s.places c.self.invariant.0 (omega arith) c.self.invariant.2 in
    let same_length = ap length c.self.view_is in
    sym c.self.view_is ∙ waiting_before_take 8 s.oldest s.len s.places c.self.invariant.0 (omega arith) c.self.invariant.2 _ (omega arith)
