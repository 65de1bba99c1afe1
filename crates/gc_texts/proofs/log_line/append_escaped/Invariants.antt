use Rattle.gc_texts.proofs.Common.{◌≡◌, ◌+◌, ◌*◌, ◌≤◌, ◌++◌, take, flat_map, array_vec_len, escape}
use Rattle.gc_texts.proofs.log_line.append_escaped.Given as goal

-- the bytes so far were appended in the form of a log line, each as at most four
abbrev pub invariant-loop-b : goal.invariant-loop-b
invariant-loop-b g l = record {
  written : l.to.items ≡ l.initial.to.items ++ flat_map escape (take l.b-index l.bytes);
  room : array_vec_len l.to ≤ array_vec_len l.initial.to + 4 * l.b-index;
}
