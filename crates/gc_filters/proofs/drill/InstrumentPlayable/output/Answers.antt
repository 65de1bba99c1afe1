use Rattle.gc_filters.proofs.Common.{◌≡◌, subst, IfOk, ℕ, List, played, drill_text_on}
use Rattle.gc_filters.proofs.Shown.{text_shown}
use Rattle.gc_filters.proofs.drill.InstrumentPlayable.output.Goals as goal

pub returns : goal.returns
unfolding drill_text_on
returns c =
    subst (λ (t : List ℕ). IfOk c.text_of.result (λ text. text.items ≡ t))
    (text_shown c.in_ok-report.report (played c.args.width c.args.self c.args.events.now).wire c.args.totals c.in_ok-report.ensures.played.report) c.text_of.ensures
