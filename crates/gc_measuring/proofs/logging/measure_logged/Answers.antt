use Rattle.gc_measuring.proofs.Common.{exit_status, subst, IfOk-weaker, ReportsLossAndEnd}
use Rattle.gc_measuring.proofs.Measured.{done_at_0}
use Rattle.gc_measuring.proofs.logging.measure_logged.Goals as goal

pub returns-clause-told : goal.returns-clause-told
returns-clause-told g c =
    let m = c.run_station_text-streams.ensures.measures in
    IfOk-weaker c.report_loss_and_end-ended.result _ _
    (λ status told. record {
      end = c.run_station_text-streams.result.1;
      between = c.run_station_text-streams.result.0.messages;
      measured = (m.0, m.1, m.3);
      all_last = c.run_station_text-streams.ensures.is_durable;
      fails = c.run_station_text-streams.ensures.output;
      tells = subst (λ lost. ReportsLossAndEnd lost c.run_station_text-streams.result.1 (exit_status status)
          (g.E.Write.contents c.run_station_text-streams.result.0.messages) (g.E.Write.contents c.report_loss_and_end-ended.new.messages))
          c.has_lost_its_log-is_lost.ensures told;
    })
    c.report_loss_and_end-ended.ensures.told

pub returns-clause-done : goal.returns-clause-done
returns-clause-done g c =
    let m = c.run_station_text-streams.ensures.measures in
    IfOk-weaker c.report_loss_and_end-ended.result _ _
    (λ status told zero. record {
      between = c.run_station_text-streams.result.0.messages;
      is = done_at_0 _ _ _ _ (exit_status status) _ _ (m.0, m.1, m.3) told.counts zero;
    })
    c.report_loss_and_end-ended.ensures.told
