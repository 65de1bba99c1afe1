use Rattle.gc_texts.proofs.Common.{◌≡◌, ◌+◌, ◌≤◌, ◌++◌, length, take, vec_capacity, vec_len, fresh_names}
use Rattle.gc_texts.proofs.new_columns.append_fresh.Given as goal

-- the names of the fields before this one were appended, and there is room for those of the others
abbrev pub invariant-loop-field : goal.invariant-loop-field
invariant-loop-field l =
    (l.columns.items ≡ l.initial.columns.items ++ fresh_names l.initial.columns.items (take l.field-index l.fields))
    × (vec_len l.columns + length l.fields ≤ vec_capacity l.columns + l.field-index)
