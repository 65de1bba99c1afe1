use Rattle.gc_measuring.proofs.Common.{exit_status, refl, IfOk-weaker}
use Rattle.gc_measuring.proofs.Measured.{done_at_0}
use Rattle.gc_measuring.proofs.station.measure_over.Goals as goal

pub returns-clause-told : goal.returns-clause-told
returns-clause-told g c =
    let m = c.run_station_text-streams.ensures.measures in
    IfOk-weaker c.report_end_of_run-ended.result _ _
    (λ status told. record {
      end = c.run_station_text-streams.result.1;
      between = c.run_station_text-streams.result.0.messages;
      measured = (m.0, m.1, m.3);
      all_last = c.run_station_text-streams.ensures.is_durable;
      fails = c.run_station_text-streams.ensures.output;
      tells = record { behind = _; loss = refl; counts = told };
    })
    c.report_end_of_run-ended.ensures.told

pub returns-clause-done : goal.returns-clause-done
returns-clause-done g c =
    let m = c.run_station_text-streams.ensures.measures in
    IfOk-weaker c.report_end_of_run-ended.result _ _
    (λ status told zero. record {
      between = c.run_station_text-streams.result.0.messages;
      is = done_at_0 _ _ _ _ (exit_status status) _ _ (m.0, m.1, m.3) told zero;
    })
    c.report_end_of_run-ended.ensures.told
