use Rattle.geocom_c.proofs.Common.{◌≡◌, length, take, drop, map, field_seen, FirstAre, IsColumnOf}
use Rattle.geocom_c.proofs.columns.put_columns.Given as goal

-- the first k columns are those of the first k fields, and none after those of all fields has changed
abbrev pub invariant-loop-k : goal.invariant-loop-k
invariant-loop-k l =
    record {
      columns : FirstAre IsColumnOf l.columns (take l.k (map field_seen l.fields));
      size : length l.columns ≡ length l.initial.columns;
      untouched : drop (length l.fields) l.columns ≡ drop (length l.fields) l.initial.columns;
    }
