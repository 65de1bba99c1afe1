use Rattle.gc_values.proofs.Common.{arith, all_digits}
use Rattle.gc_values.proofs.Kept.{kept_none, kept_more}
use Rattle.gc_values.proofs.numeral.Numeral.kept_digits.Goals as goal

pub loop-place-init : goal.loop-place-init
loop-place-init c = omega (arith, kept_none (all_digits c.args.self.now))

pub loop-place-preserved : goal.loop-place-preserved
loop-place-preserved c = omega (arith, kept_more (all_digits c.args.self.now) c.loop-place.place)
