use Rattle.gc_rehearsal.proofs.Common.{sym, subst, HasComeTo, lines_in}
use Rattle.gc_rehearsal.proofs.Happened.{put_lost}
use Rattle.gc_rehearsal.proofs.carried.Carried.put_nothing.Goals as goal

pub invariant_of-self : goal.invariant_of-self
invariant_of-self c sure =
    let i = c.self.inside in
    subst (λ acts. HasComeTo acts (lines_in i)) (sym c.then-self-inside.ensures) (put_lost i.history.acts c.args.bytes.now (lines_in i) (c.self.invariant sure))
