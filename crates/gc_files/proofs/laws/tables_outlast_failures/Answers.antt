use Rattle.gc_files.proofs.Failing.{tables_outlast_failures}
use Rattle.gc_files.proofs.laws.tables_outlast_failures.Goals as goal

pub returns : goal.returns
returns c head held heads events possible left found = tables_outlast_failures head held heads events possible left found
