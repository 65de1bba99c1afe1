use Rattle.gc_texts.proofs.Common.{◌≡◌, ◌++◌, length, map, OnOk, sym, ap, subst, ◌∙◌, in_attempt, tasks_planned, sendings}
use Rattle.gc_texts.proofs.SentAs.{sent_once}
use Rattle.gc_texts.proofs.attempts.push_attempt.Goals as goal

pub returns-in-None-clause-appends : goal.returns-in-None-clause-appends
returns-in-None-clause-appends c =
    let chain = tasks_planned c.args.chain.now in
    subst (λ ts. OnOk c.push_sending.result (c.push_sending.new.tasks.items ≡ c.args.tasks.now.items ++ map (in_attempt c.args.attempt.number c.args.attempt.again c.args.attempt.commands) ts))
    (sent_once (length c.args.chain.now) 0 chain ∙ ap (λ agree. sendings agree chain) (sym c.in-None.is)) c.push_sending.ensures.appends
