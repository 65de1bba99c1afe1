use Rattle.gc_values.proofs.Common.{◌*◌, ◌^◌, arith, ap}
use Rattle.gc_values.proofs.Powers.{bound_fits}
use Rattle.gc_values.proofs.decimal.Decimal.try_from_parts.Goals as goal

pub overflow_mul-power_of_ten : goal.overflow_mul-power_of_ten
overflow_mul-power_of_ten c = omega (arith, bound_fits c.args.scale c.requires, ap (λ p. 10 ^ 13 * p) c.power_of_ten.ensures)
