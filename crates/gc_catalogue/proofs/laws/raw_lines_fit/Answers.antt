use Rattle.gc_catalogue.proofs.RawLines.{raw_fits}
use Rattle.gc_catalogue.proofs.laws.raw_lines_fit.Goals as goal

pub returns : goal.returns
returns c = raw_fits
