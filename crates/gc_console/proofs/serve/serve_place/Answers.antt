use Rattle.gc_console.proofs.Common.{inl, inr, IfOk-weaker}
use Rattle.gc_console.proofs.Missing.{each_of_place}
use Rattle.gc_console.proofs.serve.serve_place.Goals as goal

pub returns-in-None-clause-port : goal.returns-in-None-clause-port
returns-in-None-clause-port g c at = IfOk-weaker c.refuse_numbers-in-None.result _ _ (λ status told. inl told) c.refuse_numbers-in-None.ensures.told

pub returns-in-Some-Address-clause-port : goal.returns-in-Some-Address-clause-port
returns-in-Some-Address-clause-port g c at =
    IfOk-weaker c.report_end_at.result _ _ (λ status told. inr (c.serve_tcp-end.result, told)) (c.report_end_at.ensures.port at)

pub returns-in-Some-Device-clause-port : goal.returns-in-Some-Device-clause-port
returns-in-Some-Device-clause-port g c at =
    IfOk-weaker c.report_end_at-in-Some-Device.result _ _
    (λ status told. inr (c.serve_device-end.result, told))
    (c.report_end_at-in-Some-Device.ensures.port at)

pub returns-in-Some-Address-clause-served : goal.returns-in-Some-Address-clause-served
returns-in-Some-Address-clause-served g c =
    IfOk-weaker c.report_end_at.result _ _
    (λ status told. inr (record {
      end = c.serve_tcp-end.result;
      after = c.serve_tcp-end.new.instrument;
      serves = each_of_place _ _ _ _ _ _ c.serve_tcp-end.result c.serve_tcp-end.ensures.serves;
      tells = told;
    }))
    c.report_end_at.ensures.told
