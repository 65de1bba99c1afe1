use Rattle.gc_files.proofs.Common.{◌≤◌, ◌-◌, length, take, PutsAll}
use Rattle.gc_files.proofs.opening.append_all.Given as goal

-- the first `done` bytes were appended
abbrev pub invariant-loop-done : goal.invariant-loop-done
invariant-loop-done g l = record {
  within : l.done ≤ length l.bytes;
  puts : PutsAll (g.F.Appending.life l.fn.file) (g.F.Appending.life l.file) (take l.done l.bytes);
}

abbrev pub decreases-loop-done : goal.decreases-loop-done
decreases-loop-done g l = length l.bytes - l.done
