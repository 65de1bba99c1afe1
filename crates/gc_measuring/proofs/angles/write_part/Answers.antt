use Rattle.gc_measuring.proofs.Common.{rules, decimal}
use Rattle.gc_measuring.proofs.Scaled.{zeros_before}
use Rattle.gc_measuring.proofs.angles.write_part.Goals as goal

pub returns-in-Gon : goal.returns-in-Gon
returns-in-Gon g c = rw (c.in-Gon.is, ← zeros_before 5 (decimal c.args.part)) (search rules)

pub returns-in-Degree : goal.returns-in-Degree
returns-in-Degree g c = rw (c.in-Degree.is, ← zeros_before 6 (decimal c.args.part)) (search rules)
