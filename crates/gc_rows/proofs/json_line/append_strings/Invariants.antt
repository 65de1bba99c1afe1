use Rattle.gc_rows.proofs.Common.{◌≡◌, ◌+◌, ◌*◌, ◌≤◌, ◌++◌, false, take, drop, nat_lt, array_vec_len, total_length, strings_text}
use Rattle.gc_rows.proofs.json_line.append_strings.Given as goal

-- the strings of the first k texts were appended, and those of the others make up all strings
abbrev pub invariant-loop-k : goal.invariant-loop-k
invariant-loop-k g l = record {
  written : l.line.items ++ strings_text (nat_lt 0 l.k) (drop l.k l.texts) ≡ l.initial.line.items ++ strings_text false l.texts;
  room : array_vec_len l.line ≤ array_vec_len l.initial.line + 8 * total_length (take l.k l.texts) + 3 * l.k;
}
