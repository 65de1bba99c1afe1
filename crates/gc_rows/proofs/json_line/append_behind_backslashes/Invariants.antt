use Rattle.gc_rows.proofs.Common.{◌≡◌, ◌+◌, ◌*◌, ◌≤◌, ◌++◌, take, flat_map, array_vec_len, behind_backslash}
use Rattle.gc_rows.proofs.json_line.append_behind_backslashes.Given as goal

-- the bytes so far were appended, each double quote and each backslash after a backslash
abbrev pub invariant-loop-b : goal.invariant-loop-b
invariant-loop-b g l = record {
  written : l.line.items ≡ l.initial.line.items ++ flat_map behind_backslash (take l.b-index l.text);
  room : array_vec_len l.line ≤ array_vec_len l.initial.line + 2 * l.b-index;
}
