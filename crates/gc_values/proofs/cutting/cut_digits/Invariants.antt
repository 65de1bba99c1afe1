use Rattle.gc_values.proofs.Common.{take, AreDigits}
use Rattle.gc_values.proofs.cutting.cut_digits.Given as goal

abbrev pub invariant-loop-i : goal.invariant-loop-i
invariant-loop-i l = AreDigits (take l.i l.text)
