use Rattle.gc_values.proofs.Common.{take}
use Rattle.gc_values.proofs.TextShape.{AreBare}
use Rattle.gc_values.proofs.quick.cut_plain.Given as goal

abbrev pub invariant-loop-i : goal.invariant-loop-i
invariant-loop-i l = AreBare (take l.i l.text)
