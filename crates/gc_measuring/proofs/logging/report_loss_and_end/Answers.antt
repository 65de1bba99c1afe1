use Rattle.gc_measuring.proofs.Common.{IfOk-weaker}
use Rattle.gc_measuring.proofs.logging.report_loss_and_end.Goals as goal

pub returns-clause-told : goal.returns-clause-told
returns-clause-told g c =
    IfOk-weaker c.report_end_of_run.result _ _ (λ status told. record { behind = _; loss = c.in_ok-report_loss.ensures; counts = told }) c.report_end_of_run.ensures.told
