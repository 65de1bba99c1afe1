use Rattle.gc_filters.proofs.Common.{◌≡◌, ◌++◌, drop, false, delays_of, drops_from, late_of, starts_of}
use Rattle.gc_filters.proofs.scene_parts.times_of.Given as goal

-- the starts and delays gathered so far, and those of the lines that are left, are those of all lines; and the lines that are left make
-- of `drops` so far what all lines make of `false`
abbrev pub invariant-loop-line : goal.invariant-loop-line
invariant-loop-line l = record {
  starts : l.starts.items ++ starts_of (drop l.line-index l.lines) ≡ starts_of l.lines;
  delays : l.delays.items ++ delays_of (drop l.line-index l.lines) ≡ delays_of l.lines;
  drops : drops_from l.drops (drop l.line-index l.lines) ≡ drops_from false l.lines;
  late : l.late.items ++ late_of (drop l.line-index l.lines) ≡ late_of l.lines;
}
