use Rattle.gc_rows.proofs.Common.{◌≡◌, ◌+◌, ◌*◌, ◌≤◌, ◌++◌, take, flat_map, array_vec_len, VALUE_ROOM, value_behind_comma}
use Rattle.gc_rows.proofs.row.append_values.Given as goal

-- the values so far were appended, each as a field after a comma
abbrev pub invariant-loop-value : goal.invariant-loop-value
invariant-loop-value g l = record {
  written : l.row.items ≡ l.initial.row.items ++ flat_map value_behind_comma (take l.value-index l.values);
  room : array_vec_len l.row ≤ array_vec_len l.initial.row + VALUE_ROOM * l.value-index;
}
