use Rattle.gc_rehearsal.proofs.Common.{subst, IfSome, IsOfLine, lines_in}
use Rattle.gc_rehearsal.proofs.Happened.{told_if_sure}
use Rattle.gc_rehearsal.proofs.carried.Carried.acts_are_of_line.Goals as goal

pub returns : goal.returns
returns c =
    let i = c.self.inside in
    subst (λ acts. IfSome acts IsOfLine) c.self.view_is (told_if_sure i.alters i.history.acts IsOfLine (λ sure. (lines_in i, c.self.invariant sure)))
