use Rattle.gc_texts.proofs.Common.{inr, sym, ◌∙◌}
use Rattle.gc_texts.proofs.near_numbers.is_tolerance_text.Goals as goal

pub returns-in-Some-clause-fit : goal.returns-in-Some-clause-fit
returns-in-Some-clause-fit c holds =
    record { number = c.in-Some.tolerance; spelled = c.in-Some.ensures; is = sym c.is_tolerance.ensures ∙ holds }

pub returns-in-Some-clause-unfit : goal.returns-in-Some-clause-unfit
returns-in-Some-clause-unfit c fails =
    record { is = inr (c.in-Some.tolerance, c.in-Some.ensures, sym c.is_tolerance.ensures ∙ fails) }
