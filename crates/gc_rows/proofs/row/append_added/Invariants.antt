use Rattle.gc_rows.proofs.Common.{◌≡◌, ◌+◌, ◌*◌, ◌≤◌, ◌++◌, map, take, flat_map, array_vec_len, field_seen, text_under, behind_comma, VALUE_ROOM}
use Rattle.gc_rows.proofs.row.append_added.Given as goal

-- the fields under the names so far were appended
abbrev pub invariant-loop-name : goal.invariant-loop-name
invariant-loop-name g l = record {
  written : l.row.items ≡ l.initial.row.items ++ flat_map (λ n. behind_comma (text_under (map field_seen l.fields) l.values n.items)) (take l.name-index l.columns);
  room : array_vec_len l.row ≤ array_vec_len l.initial.row + VALUE_ROOM * l.name-index;
}
