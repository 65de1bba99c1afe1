use Rattle.gc_rows.proofs.Common.{◌≡◌, ◌+◌, ◌*◌, ◌≤◌, ◌++◌, drop, length, array_vec_len, OWN_ROOM, members_of, value_cells, members_text}
use Rattle.gc_rows.proofs.json_line.append_values.Given as goal

-- the members of the values so far were appended, and those of the others, from this column and the rest of `came` on, make up
-- all members
abbrev pub invariant-loop-value : goal.invariant-loop-value
invariant-loop-value g l = record {
  column : l.column ≡ l.first + l.value-index;
  short : length l.rest ≤ 512;
  written : l.line.items ++ members_text (members_of (value_cells l.column (drop l.value-index l.values) l.rest))
      ≡ l.initial.line.items ++ members_text (members_of (value_cells l.first l.values l.came));
  room : array_vec_len l.line + 8 * length l.rest ≤ array_vec_len l.initial.line + (OWN_ROOM * l.value-index + 8 * length l.came);
}
