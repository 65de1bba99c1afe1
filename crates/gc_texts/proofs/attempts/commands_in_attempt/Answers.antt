use Rattle.gc_texts.proofs.Common.{◌≡◌, length, arith, ap, ◌∙◌, length-map, tasks_planned, sendings, Planned}
use Rattle.gc_texts.proofs.SentAs.{twice_as_many}
use Rattle.gc_texts.proofs.attempts.commands_in_attempt.Goals as goal

pub returns-in-Some-clause-is : goal.returns-in-Some-clause-is
returns-in-Some-clause-is c =
    let chain = tasks_planned c.args.chain.now in
    let many = ap (λ agree. length (sendings agree chain)) c.in-Some.is ∙ twice_as_many c.in-Some.field-0 chain in
    let same : length chain ≡ length c.args.chain.now = length-map c.args.chain.now (λ (p : Planned). p.task) in
    omega (arith, many, same)
