use Rattle.gc_values.proofs.DecimalLaws.{rounding_unique}
use Rattle.gc_values.proofs.decimal_laws.rounding_is_unique.Goals as goal

pub returns : goal.returns
returns c = rounding_unique
