use Rattle.gc_station.proofs.Common.{None, sym, ap, subst, ◌∙◌, IsAskedReading, outcome_seen, Outcome, code_in, code_of}
use Rattle.gc_client.specs.Prelude.{IsReadBy}
use Rattle.gc_station.proofs.writing.code_of.Goals as goal

pub returns-in-Answered : goal.returns-in-Answered
returns-in-Answered c reads call are read =
    let is = c.in-Answered.is in
    let own = are None call c.in-Answered.field-1.items c.in-Answered.reading (subst (IsReadBy IsAskedReading call) is read) in
    c.code_in.ensures ∙ ap code_in (sym own) ∙ ap (λ (o : Outcome). code_of reads call (outcome_seen o)) (sym is)
