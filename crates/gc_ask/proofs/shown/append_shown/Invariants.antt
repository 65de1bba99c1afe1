use Rattle.gc_ask.proofs.Common.{◌≡◌, ◌+◌, ◌*◌, ◌≤◌, ◌++◌, take, flat_map}
use Rattle.arrayvec.specs.ArrayVec.{array_vec_len}
use Rattle.gc_ask.specs.Showing.{shown_byte}
use Rattle.gc_ask.proofs.shown.append_shown.Given as goal

-- the bytes so far were appended as a terminal is to show them, each as at most four
abbrev pub invariant-loop-b : goal.invariant-loop-b
invariant-loop-b l = record {
  written : l.to.items ≡ l.initial.to.items ++ flat_map shown_byte (take l.b-index l.bytes);
  room : array_vec_len l.to ≤ array_vec_len l.initial.to + 4 * l.b-index;
}
