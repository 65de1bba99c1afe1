use Rattle.gc_console.proofs.Common.{IfOk-weaker}
use Rattle.gc_console.proofs.ask.ask_place.Goals as goal

pub returns-clause-port : goal.returns-clause-port
returns-clause-port g c at =
    IfOk-weaker c.report_asked_at-ended.result _ _
    (λ status told. record { end = c.ask_at-end.result; ends = c.ask_at-end.ensures.asks; tells = told })
    (c.report_asked_at-ended.ensures.port at)

pub returns-clause-told : goal.returns-clause-told
returns-clause-told g c =
    IfOk-weaker c.report_asked_at-ended.result _ _
    (λ status told. record { end = c.ask_at-end.result; asks = c.ask_at-end.ensures.asks; tells = told })
    c.report_asked_at-ended.ensures.told
