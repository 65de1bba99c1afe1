use Rattle.gc_values.proofs.RoundedDecimals.{rounded_rounds}
use Rattle.gc_values.proofs.decimal_laws.rounded_is_the_rounding.Goals as goal

pub returns : goal.returns
returns c = rounded_rounds
