use Rattle.gc_console.proofs.Common.{Err, inr, IfOk-weaker, StreamClosed}
use Rattle.gc_console.proofs.serve.serve_with_places_filled.Goals as goal

pub returns-in_default-clause-port : goal.returns-in_default-clause-port
returns-in_default-clause-port g c at plain once shown =
    IfOk-weaker c.report_unfilled.result _ _
    (λ status closed. inr (Err StreamClosed, (closed.is, closed.told shown)))
    (c.report_unfilled.ensures.port at)
