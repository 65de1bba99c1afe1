use Rattle.gc_console.proofs.Common.{IfOk-weaker}
use Rattle.gc_console.proofs.Ends.{of_ended}
use Rattle.gc_console.proofs.system.System.measure.Goals as goal

pub returns-clause-told : goal.returns-clause-told
returns-clause-told g c =
    IfOk-weaker c.report-ended.result _ _
    (λ status t. record { begun = t.begun; ended = t.ended; input = t.input; output = t.output; read = t.read; written = t.written; is = t.is })
    (of_ended c.report-ended.result c.measure_site-streams.result.1 _ c.report-ended.ensures c.measure_site-streams.ensures.told)
