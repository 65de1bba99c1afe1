use Rattle.gc_texts.proofs.DescribedLaws.{descriptions_read_back, one_description}
use Rattle.gc_texts.proofs.laws.descriptions_read_back.Goals as goal

pub returns-clause-written : goal.returns-clause-written
returns-clause-written c = descriptions_read_back

pub returns-clause-one : goal.returns-clause-one
returns-clause-one c = one_description
