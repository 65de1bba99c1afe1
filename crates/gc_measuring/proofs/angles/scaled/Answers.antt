use Rattle.gc_measuring.proofs.Common.{lit<}
use Rattle.gc_measuring.proofs.Scaled.{rounded_apart}
use Rattle.gc_measuring.proofs.angles.scaled.Goals as goal

pub returns : goal.returns
returns c = rounded_apart c.args.angle c.args.scale 3141592653589793238462643 (lit< tt)
