use Rattle.gc_rows.proofs.Common.{◌≡◌, ◌+◌, ◌*◌, ◌≤◌, ◌++◌, take, flat_map, array_vec_len, behind_comma}
use Rattle.gc_rows.specs.declared.record.TheConstants.{COLUMN_ROOM}
use Rattle.gc_rows.proofs.record.append_names.Given as goal

-- the names so far were appended
abbrev pub invariant-loop-name : goal.invariant-loop-name
invariant-loop-name l = record {
  written : l.head.items ≡ l.initial.head.items ++ flat_map (λ n. behind_comma n.items) (take l.name-index l.columns);
  room : array_vec_len l.head ≤ array_vec_len l.initial.head + COLUMN_ROOM * l.name-index;
}
