use Rattle.std.proofs.lemmas.Result.{IfOk-weaker}
use Rattle.gc_logs.proofs.ServedEnds.{tells_served}
use Rattle.gc_logs.proofs.ending.report_served.Goals as goal

pub returns : goal.returns
returns g c = record {
  told = IfOk-weaker c.report_end.result _ _ (λ status told. tells_served c.args.end _ _ _ told) (rw (c.end_of_serving.ensures) at c.report_end.ensures.told);
}
