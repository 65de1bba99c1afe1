use Rattle.gc_measuring.proofs.Common.{refl, IfOk-weaker}
use Rattle.gc_measuring.proofs.station.text_at.Goals as goal

pub returns-in-Err-clause-refused : goal.returns-in-Err-clause-refused
returns-in-Err-clause-refused g c =
    IfOk-weaker c.report_end_of_run.result _ _
    (λ status told. record { stop = c.in-Err.stop; why = c.in-Err.ensures.refused; is = told.0; tells = told.1; output = refl })
    c.report_end_of_run.ensures.told
