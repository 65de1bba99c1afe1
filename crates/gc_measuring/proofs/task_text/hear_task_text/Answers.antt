use Rattle.gc_measuring.proofs.Common.{IfErr-weaker, hearing_of}
use Rattle.gc_measuring.proofs.Hearing.{refused_if_heard}
use Rattle.gc_measuring.proofs.task_text.hear_task_text.Goals as goal

pub returns-in-Ok-clause-refused : goal.returns-in-Ok-clause-refused
returns-in-Ok-clause-refused g c =
    IfErr-weaker c.tasks_of.result _ _
    (λ stop none. refused_if_heard (hearing_of g.S.Source c.args.source.now) (hearing_of g.S.Source c.hear_text.new.source)
    c.in-Ok.text.items stop c.in-Ok.ensures.found none)
    c.tasks_of.ensures.refused
