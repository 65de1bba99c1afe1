use Rattle.gc_filters.proofs.Common.{sym, ◌∙◌}
use Rattle.gc_filters.proofs.Percents.{sign_on_in_front, no_lone_return}
use Rattle.gc_filters.proofs.remark.has_later_percent.Goals as goal

pub returns-in-Some-clause-sign_on : goal.returns-in-Some-clause-sign_on
returns-in-Some-clause-sign_on c = λ none.
    sign_on_in_front c.args.line.now c.in-Some.field-0-0.now c.in-Some.rest.now c.cut_at.result.0.now c.cut_at.result.1 c.in-Some.ensures.cases.0 c.cut_at.ensures (sym c.is_some.ensures ∙ none)

pub returns-in-Some-clause-lone : goal.returns-in-Some-clause-lone
returns-in-Some-clause-lone c = λ none.
    no_lone_return c.args.line.now c.in-Some.field-0-0.now c.in-Some.rest.now c.cut_at.result.0.now c.cut_at.result.1 c.in-Some.ensures.cases.0 c.cut_at.ensures (sym c.is_some.ensures ∙ none)
