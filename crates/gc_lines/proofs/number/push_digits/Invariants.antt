use Rattle.gc_lines.proofs.Common.{◌≡◌, ◌+◌, ◌<◌, ◌≤◌, ◌^◌, ◌++◌, length, drop, decimal}
use Rattle.gc_lines.proofs.number.push_digits.Given as goal

abbrev pub invariant-loop-left : goal.invariant-loop-left
invariant-loop-left g l = record {
  room : l.at ≤ 4;
  size : length l.digits ≡ 5;
  below : l.left < 10 ^ (l.at + 1);
  text : decimal l.left ++ drop (l.at + 1) l.digits ≡ decimal l.n;
}

abbrev pub decreases-loop-left : goal.decreases-loop-left
decreases-loop-left g l = l.left
