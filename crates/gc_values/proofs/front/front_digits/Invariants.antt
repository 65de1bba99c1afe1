use Rattle.gc_values.proofs.Common.{CountsDigits}
use Rattle.gc_values.proofs.front.front_digits.Given as goal

abbrev pub invariant-loop-i : goal.invariant-loop-i
invariant-loop-i l = CountsDigits l.front l.text l.most l.value l.i
