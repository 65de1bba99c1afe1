use Rattle.gc_files.proofs.Common.{◌≡◌, ◌≤◌, drop, Some, false, Life, content, has_feed}
use Rattle.gc_files.proofs.opening.end_of_rows.Given as goal

-- no line feed is in the file from place `end` on
abbrev pub invariant-loop-end : goal.invariant-loop-end
invariant-loop-end g l = record {
  within : l.end ≤ l.len;
  none : (known : Life) → g.F.Appending.life l.file ≡ Some known → has_feed (drop l.end (content known)) ≡ false;
}

abbrev pub decreases-loop-end : goal.decreases-loop-end
decreases-loop-end g l = l.end
