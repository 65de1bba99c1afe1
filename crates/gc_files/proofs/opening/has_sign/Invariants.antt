use Rattle.gc_files.proofs.Common.{◌≡◌, ◌≤◌, ◌-◌, length, drop, Some, Life, content, fits}
use Rattle.gc_files.proofs.opening.has_sign.Given as goal

-- the first `at` bytes of the sign and of the file are the same, so that only those after them say whether the file fits the sign
abbrev pub invariant-loop-at : goal.invariant-loop-at
invariant-loop-at g l = record {
  sign : l.at ≤ length l.sign;
  len : l.at ≤ l.len;
  same : (known : Life) → g.F.Appending.life l.file ≡ Some known → fits l.sign (content known) ≡ fits (drop l.at l.sign) (drop l.at (content known));
}

abbrev pub decreases-loop-at : goal.decreases-loop-at
decreases-loop-at g l = length l.sign - l.at
