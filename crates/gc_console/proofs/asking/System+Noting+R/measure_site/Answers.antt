use Rattle.gc_console.proofs.Common.{IfOk-weaker}
use Rattle.gc_console.proofs.asking.System+Noting+R.measure_site.Goals as goal

pub returns-clause-told : goal.returns-clause-told
returns-clause-told g c =
    IfOk-weaker c.measure_recorded-lossy.result.1 _ _
    (λ status t. record {
      begun = c.lossy_of-lossy.result;
      ended = c.measure_recorded-lossy.result.0;
      input = c.lossy_of-lossy.ensures.input;
      output = c.lossy_of-lossy.ensures.output;
      read = c.lossless_of.ensures.input;
      written = c.lossless_of.ensures.output;
      is = t;
    })
    c.measure_recorded-lossy.ensures.told
