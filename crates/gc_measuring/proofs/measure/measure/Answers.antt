use Rattle.gc_measuring.proofs.Common.{sym}
use Rattle.gc_measuring.proofs.measure.measure.Goals as goal

pub returns-clause-runs : goal.returns-clause-runs
returns-clause-runs g c = record {
  ran = rw (c.plan_of-plan.ensures, c.as_slice.ensures.value, c.as_slice-2.ensures.value, c.requires.watches, sym c.end-output.ensures) at c.run_station-end.ensures.ran;
  keeps = rw (c.plan_of-plan.ensures, c.as_slice.ensures.value, c.as_slice-2.ensures.value, c.requires.watches) at c.run_station-end.ensures.keeps;
}
