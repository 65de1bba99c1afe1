use Rattle.gc_values.proofs.Common.{◌≡◌, min, all_digits, kept, CAP}
use Rattle.gc_values.proofs.numeral.Numeral.kept_digits.Given as goal

abbrev pub invariant-loop-place : goal.invariant-loop-place
invariant-loop-place l = l.kept ≡ min CAP (kept (all_digits l.self) l.place)
