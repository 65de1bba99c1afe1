use Rattle.gc_rehearsal.proofs.Common.{sym, subst, act_of, HasComeTo, lines_in}
use Rattle.gc_rehearsal.proofs.Happened.{quiet_act_noted}
use Rattle.gc_rehearsal.proofs.carried.Carried.note.Goals as goal

pub invariant_of-self : goal.invariant_of-self
invariant_of-self c sure =
    let i = c.self.inside in
    subst (λ acts. HasComeTo acts (lines_in i)) (sym c.then-self-inside.ensures) (quiet_act_noted i.history.acts (act_of c.args.note.now) (lines_in i) c.requires (c.self.invariant sure))
