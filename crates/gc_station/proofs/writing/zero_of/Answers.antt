use Rattle.gc_station.proofs.Common.{sym, ap, subst, ◌∙◌, Outcome, IsZeroOf}
use Rattle.gc_client.specs.declared.settlement.Outcome.TheVariants as outcomes
use Rattle.gc_station.proofs.writing.zero_of.Goals as goal

pub returns-in-Answered-Refused-default : goal.returns-in-Answered-Refused-default
returns-in-Answered-Refused-default c =
    let said = rw c.in-Answered-Refused-default.is at c.in-Answered-Refused-default.field-0-is in
    let is = c.in-Answered-Refused-default.is ∙ ap (λ x. outcomes.Answered x c.in-Answered-Refused-default.line) said in
    subst (λ (o : Outcome). IsZeroOf c.args.form.now c.args.call.now o c.line_as_zero.result) (sym is) c.line_as_zero.ensures
