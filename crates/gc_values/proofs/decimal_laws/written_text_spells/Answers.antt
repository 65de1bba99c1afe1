use Rattle.gc_values.proofs.DecimalLaws.{written_spells_decimal}
use Rattle.gc_values.proofs.decimal_laws.written_text_spells.Goals as goal

pub returns : goal.returns
returns c = written_spells_decimal
