use Rattle.gc_station.proofs.Common.{sym, ap, subst, ◌∙◌, IsAskedReading, outcome_seen, Outcome, answer_as, end_of, IsByForm, IsZeroOf}
use Rattle.gc_client.specs.Prelude.{IsReadBy}
use Rattle.gc_station.proofs.Saying.{answer_ends}
use Rattle.gc_station.proofs.writing.ending_of.Goals as goal

pub returns-in-Answered : goal.returns-in-Answered
returns-in-Answered c reads call are read by zero =
    let is = c.in-Answered.is in
    let expected = c.args.expected.now in
    let line = c.in-Answered.line in
    c.answer_ending.ensures ∙ ap (λ said. answer_as expected said c.args.zero.now line.items) c.said_by.ensures
    ∙ answer_ends reads are expected call c.in-Answered.reading line c.args.by_form.now c.args.zero.now (subst (IsReadBy IsAskedReading call) is read)
    (subst (λ (o : Outcome). IsByForm expected.form o c.args.by_form.now) is by)
    (subst (λ (o : Outcome). IsZeroOf expected.form call o c.args.zero.now) is zero)
    ∙ ap (λ (o : Outcome). end_of reads expected call (outcome_seen o)) (sym is)
