use Rattle.gc_rows.proofs.Common.{◌≡◌, ◌+◌, ◌*◌, ◌≤◌, ◌++◌, drop, map, array_vec_len, field_seen, text_under, quantity_names, fields_behind_commas, VALUE_ROOM}
use Rattle.gc_rows.proofs.row.append_known.Given as goal

-- the fields under the first names were appended, and those under the others make up all
abbrev pub invariant-loop-column : goal.invariant-loop-column
invariant-loop-column g l = record {
  written : l.row.items ++ fields_behind_commas (map (text_under (map field_seen l.fields) l.values) (drop l.column quantity_names))
      ≡ l.initial.row.items ++ fields_behind_commas (map (text_under (map field_seen l.fields) l.values) quantity_names);
  room : array_vec_len l.row ≤ array_vec_len l.initial.row + VALUE_ROOM * l.column;
}
