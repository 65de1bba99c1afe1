use Rattle.gc_console.proofs.Common.{IfOk-weaker}
use Rattle.gc_console.proofs.looped.loop_on.Goals as goal

pub returns-clause-told : goal.returns-clause-told
returns-clause-told g c =
    IfOk-weaker c.report_asked.result _ _
    (λ status told. record { end = c.loop_tcp_on-end.result; ends = c.loop_tcp_on-end.ensures.loops; tells = told })
    c.report_asked.ensures.told
