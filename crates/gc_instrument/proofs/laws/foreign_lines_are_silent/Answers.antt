use Rattle.gc_instrument.proofs.Silence.{foreign_lines_are_silent}
use Rattle.gc_instrument.proofs.laws.foreign_lines_are_silent.Goals as goal

pub returns : goal.returns
returns c = foreign_lines_are_silent
