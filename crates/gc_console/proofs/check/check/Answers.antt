use Rattle.gc_console.proofs.Common.{IfOk-weaker}
use Rattle.gc_console.proofs.check.check.Goals as goal

pub returns-clause-told : goal.returns-clause-told
returns-clause-told g c =
    IfOk-weaker c.report_served.result _ _
    (λ status told. record { end = c.check_input.result; ends = c.check_input.ensures.checks; tells = told })
    c.report_served.ensures.told
