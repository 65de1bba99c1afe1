use Rattle.gc_values.proofs.DecimalLaws.{spelled_not_beyond, spelled_not_nothing}
use Rattle.gc_values.proofs.decimal_laws.spelled_text_has_no_fault.Goals as goal

pub returns-clause-range : goal.returns-clause-range
returns-clause-range c = spelled_not_beyond

pub returns-clause-spelling : goal.returns-clause-spelling
returns-clause-spelling c = spelled_not_nothing
