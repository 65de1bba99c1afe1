use Rattle.gc_values.proofs.Scanning.{Scanned}
use Rattle.gc_values.proofs.items.cut_piece.Given as goal

abbrev pub invariant-loop-i : goal.invariant-loop-i
invariant-loop-i l = Scanned l.text l.i l.quoted
