use Rattle.gc_program_theorems.proofs.Lasting.{each_file_has_its_rows}
use Rattle.gc_program_theorems.proofs.laws.each_file_has_its_rows.Goals as goal

pub returns : goal.returns
returns g c = each_file_has_its_rows
