use Rattle.gc_console.proofs.Common.{Err, inr, IfOk-weaker, Clock}
use Rattle.gc_console.proofs.serve.serve_slow.Goals as goal

pub returns-in_default-clause-port : goal.returns-in_default-clause-port
returns-in_default-clause-port g c at once = IfOk-weaker c.report_end.result _ _ (λ status told. inr (Err Clock, told)) c.report_end.ensures.told
