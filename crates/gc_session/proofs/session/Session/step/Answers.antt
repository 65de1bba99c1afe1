use Rattle.gc_session.proofs.Common.{◌∙◌, sym, subst, arith}
use Rattle.gc_session.proofs.Nexts.{HoldsAt, next_holds}
use Rattle.gc_session.proofs.session.Session.step.Goals as goal

pub make-requires : goal.make-requires
make-requires c is =
    let room = (subst (λ n. HoldsAt c.pass.new.self n) (sym c.next-next.ensures ∙ is) (next_holds c.pass.new.self c.args.want)).1.0 in
    omega (arith, room)
