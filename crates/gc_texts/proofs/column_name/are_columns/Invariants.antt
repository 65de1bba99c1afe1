use Rattle.gc_texts.proofs.Common.{◌≡◌, map, drop, are_columns, field_seen}
use Rattle.gc_texts.proofs.column_name.are_columns.Given as goal

-- the fields from here on decide
abbrev pub invariant-loop-k : goal.invariant-loop-k
invariant-loop-k l = are_columns (map field_seen l.fields) ≡ are_columns (map field_seen (drop l.k l.fields))
