use Rattle.gc_rows.proofs.Common.{◌≡◌, ◌+◌, ◌*◌, ◌≤◌, ◌++◌, take, flat_map, array_vec_len, within_quotes}
use Rattle.gc_rows.proofs.row.append_doubled.Given as goal

-- the bytes so far were appended, each double quote twice
abbrev pub invariant-loop-b : goal.invariant-loop-b
invariant-loop-b g l = record {
  written : l.to.items ≡ l.initial.to.items ++ flat_map within_quotes (take l.b-index l.text);
  room : array_vec_len l.to ≤ array_vec_len l.initial.to + 2 * l.b-index;
}
