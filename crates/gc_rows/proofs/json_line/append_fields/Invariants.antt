use Rattle.gc_rows.proofs.Common.{◌≡◌, ◌+◌, ◌*◌, ◌≤◌, ◌++◌, drop, map, take, array_vec_len, total_length, field_seen, OWN_ROOM, members_of, field_cells, members_text}
use Rattle.gc_rows.proofs.json_line.append_fields.Given as goal

-- the members of the first values were appended, and those of the others make up all
abbrev pub invariant-loop-k : goal.invariant-loop-k
invariant-loop-k g l = record {
  written : l.line.items ++ members_text (members_of (field_cells (drop l.k (map field_seen l.fields)) (drop l.k l.values) (drop l.k l.came)))
      ≡ l.initial.line.items ++ members_text (members_of (field_cells (map field_seen l.fields) l.values l.came));
  room : array_vec_len l.line ≤ array_vec_len l.initial.line + (OWN_ROOM * l.k + 8 * total_length (take l.k l.came));
}
