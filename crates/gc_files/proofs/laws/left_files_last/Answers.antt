use Rattle.gc_files.proofs.InTurn.{left_files_last}
use Rattle.gc_files.proofs.laws.left_files_last.Goals as goal

pub returns : goal.returns
returns c = left_files_last
