use Rattle.gc_files.proofs.Lasting.{tables_last}
use Rattle.gc_files.proofs.laws.tables_last.Goals as goal

pub returns : goal.returns
returns c head held heads runs happen = tables_last head held heads runs happen
