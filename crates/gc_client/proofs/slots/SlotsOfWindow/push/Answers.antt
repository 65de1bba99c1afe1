use Rattle.gc_client.proofs.Common.{[], ◌∷◌, ◌++◌, ap, ◌∙◌, arith}
use Rattle.gc_client.proofs.Rounds.{waiting_after_push}
use Rattle.gc_client.proofs.slots.SlotsOfWindow.push.Goals as goal

-- the write is after the youngest
pub returns : goal.returns
returns g c =
    let s = c.self.inside in
    waiting_after_push 8 s.oldest s.len s.places c.self.invariant.0 (omega arith) c.self.invariant.2 c.args.p (omega arith)
    ∙ ap (λ ps. ps ++ c.args.p ∷ []) c.self.view_is
