use Rattle.gc_lines.proofs.Cutting.{however_cut}
use Rattle.gc_lines.proofs.laws.frames_however_cut.Goals as goal

pub returns : goal.returns
returns c = however_cut
