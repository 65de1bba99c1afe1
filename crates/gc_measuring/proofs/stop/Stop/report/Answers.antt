use Rattle.gc_measuring.proofs.Common.{IfOk-weaker, Appends-trans}
use Rattle.gc_measuring.proofs.stop.Stop.report.Goals as goal

pub returns : goal.returns
returns g c =
    IfOk-weaker c.report_detail.result _ _ (λ _ told. Appends-trans _ _ _ _ _ (rw (c.fault.ensures) at c.in_ok-tell.ensures) told) c.report_detail.ensures
