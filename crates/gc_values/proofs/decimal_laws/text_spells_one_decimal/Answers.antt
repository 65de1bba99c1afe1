use Rattle.gc_values.proofs.DecimalLaws.{spells_unique}
use Rattle.gc_values.proofs.decimal_laws.text_spells_one_decimal.Goals as goal

pub returns : goal.returns
returns c = spells_unique
