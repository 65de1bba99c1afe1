use Rattle.gc_client.proofs.Common.{length, sym, ap, ◌∙◌, arith}
use Rattle.gc_client.proofs.Rounds.{length-waiting}
use Rattle.gc_client.proofs.slots.SlotsOfWindow.len.Goals as goal

pub returns-clause-len : goal.returns-clause-len
returns-clause-len g c =
    let s = c.self.inside in
    sym (length-waiting 8 s.oldest s.len s.places c.self.invariant.0 (omega arith) c.self.invariant.2) ∙ ap length c.self.view_is
