use Rattle.geocom_c.proofs.Common.{subst, take, sym, IsLineOf}
use Rattle.geocom_c.proofs.state.asked_at.Goals as goal

pub returns-clause-only : goal.returns-clause-only
returns-clause-only c = λ asked within is. c.asked_in.ensures.only asked (subst (λ n. IsLineOf (take n c.args.place.now.line) asked) (sym c.from-length.ensures) is)
