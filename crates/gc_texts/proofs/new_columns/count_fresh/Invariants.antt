use Rattle.gc_texts.proofs.Common.{◌≡◌, ◌≤◌, length, take, fresh_names}
use Rattle.gc_texts.proofs.new_columns.count_fresh.Given as goal

-- the fields before this one were counted
abbrev pub invariant-loop-field : goal.invariant-loop-field
invariant-loop-field l = (l.count ≡ length (fresh_names l.columns (take l.field-index l.fields))) × (l.count ≤ l.field-index)
