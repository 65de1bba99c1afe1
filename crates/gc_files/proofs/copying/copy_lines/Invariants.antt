use Rattle.gc_files.proofs.Common.{◌≡◌, ◌≤◌, ◌-◌, take, Some, feeds, Life, content, PutsAll}
use Rattle.gc_files.proofs.copying.copy_lines.Given as goal

-- the first `at` bytes of `old` were appended to `fresh`, and `lines` is how many line feeds are among them
abbrev pub invariant-loop-at : goal.invariant-loop-at
invariant-loop-at g l = record {
  within : l.at ≤ l.len;
  few : l.lines ≤ l.at;
  puts : (known : Life) → g.F.Appending.life l.old ≡ Some known → PutsAll (g.G.Appending.life l.fn.fresh) (g.G.Appending.life l.fresh) (take l.at (content known));
  count : (known : Life) → g.F.Appending.life l.old ≡ Some known → l.lines ≡ feeds (take l.at (content known));
}

abbrev pub decreases-loop-at : goal.decreases-loop-at
decreases-loop-at g l = l.len - l.at
