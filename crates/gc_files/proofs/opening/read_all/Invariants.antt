use Rattle.gc_files.proofs.Common.{◌≡◌, ◌≤◌, ◌-◌, length, take, drop, Some, Life, content}
use Rattle.gc_files.proofs.opening.read_all.Given as goal

-- the first `done` bytes of the buffer are those of the file from place `at` on
abbrev pub invariant-loop-done : goal.invariant-loop-done
invariant-loop-done g l = record {
  within : l.done ≤ length l.buf;
  size : length l.buf ≡ length l.fn.buf;
  bytes : (known : Life) → g.F.Appending.life l.file ≡ Some known → take l.done l.buf ≡ take l.done (drop l.at (content known));
}

abbrev pub decreases-loop-done : goal.decreases-loop-done
decreases-loop-done g l = length l.initial.buf - l.done
