use Rattle.gc_console.proofs.Common.{inr, IfOk-weaker}
use Rattle.gc_console.proofs.drill.drill_within.Goals as goal

pub returns-clause-told : goal.returns-clause-told
returns-clause-told g c =
    IfOk-weaker c.report_end.result _ _
    (λ status told. inr (record { end = c.run_drill_on.result; ends = c.run_drill_on.ensures.drills; tells = told })) c.report_end.ensures.told
