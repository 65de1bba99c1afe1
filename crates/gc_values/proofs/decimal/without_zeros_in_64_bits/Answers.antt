use Rattle.gc_values.proofs.Common.{arith}
use Rattle.gc_values.proofs.ZerosLemmas.{zero_off}
use Rattle.gc_values.proofs.decimal.without_zeros_in_64_bits.Goals as goal

pub loop-scale-preserved : goal.loop-scale-preserved
loop-scale-preserved c = (zero_off c.args.digits c.loop-scale.scale c.loop-scale.digits c.args.scale (omega arith) (omega arith) c.loop-scale.invariant.0, omega arith)
