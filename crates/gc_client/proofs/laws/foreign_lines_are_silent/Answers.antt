use Rattle.gc_client.proofs.Silence.{foreign_lines_are_silent, ours_by_grammar}
use Rattle.gc_client.proofs.laws.foreign_lines_are_silent.Goals as goal

pub returns : goal.returns
returns g c = record { silent = foreign_lines_are_silent; ours = ours_by_grammar }
