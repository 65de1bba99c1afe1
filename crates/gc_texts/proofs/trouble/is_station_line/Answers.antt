use Rattle.gc_texts.proofs.Common.{ap, sym, ◌∙◌, not-false, asks_outside}
use Rattle.gc_texts.proofs.TaskForms.{one_said}
use Rattle.gc_texts.proofs.trouble.is_station_line.Goals as goal

pub returns-in-Some-clause-none : goal.returns-in-Some-clause-none
returns-in-Some-clause-none c isnt said is =
    ap asks_outside (one_said c.args.line.now said c.in-Some.said is c.in-Some.ensures) ∙ sym c.asks_outside.ensures ∙ not-false c.asks_outside.result isnt
