use Rattle.gc_texts.proofs.DescribedLaws.{checked_as_the_tables}
use Rattle.gc_texts.proofs.laws.described_parameters_are_the_tables.Goals as goal

pub returns : goal.returns
returns c = checked_as_the_tables
