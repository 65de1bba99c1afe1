use Rattle.gc_values.proofs.Unique.{names_once}
use Rattle.gc_values.proofs.decimal_laws.text_names_one_fraction.Goals as goal

pub returns : goal.returns
returns c = names_once
