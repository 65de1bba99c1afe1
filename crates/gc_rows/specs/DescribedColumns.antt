-- What is under the columns that descriptions name: this project's own.
use Rattle.gc_rows.specs.Common.{list_all, get_member, Answer, Table, Raw, Call, Value, are_columns, is_named, names_of_row, DescriptionSeen, line_of, FieldSeen, escaped, value_under}
use Rattle.std.specs.Prelude.{◌≡◌, ℕ, ◌&&◌, Bool, true, not, List, [], ◌∷◌, ◌++◌, map, Option, Some, None}
use Rattle.gc_catalogue.specs.declared.raw.RawCall.{RawCall}
use Rattle.gc_rows.specs.Columns.{Entry, counted_answer, last_columns, members_after_run, row_fields}
use Rattle.gc_rows.specs.DescribedCells.{answer_kinds}
use Rattle.gc_rows.specs.Laws.{record_read}
use Rattle.gc_rows.specs.Lookup.{is_among, text_of, under}
use Rattle.gc_rows.specs.NamedFields.{value_text}
use Rattle.gc_rows.specs.Quantities.{quantity_names}
use Rattle.gc_rows.specs.Records.{first_names, header}
use Rattle.gc_rows.specs.Rows.{values_of}
use Rattle.gc_rows.specs.ValueReading.{values_read}

-- the value under a name of these values, which are in the order of the fields, if there are values
abbrev pub value_if : List FieldSeen → Option (List Value) → (name : List ℕ) → Option Value
value_if fields (Some values) name = value_under name fields values
value_if fields None name = None

-- the value under a name of a line, of an answer to a procedure that is described so: the line's values are read by its kinds
abbrev pub described_value : DescriptionSeen → (line : List ℕ) → (name : List ℕ) → Option Value
described_value d line name = value_if d.values (values_read (answer_kinds d) (values_of line)) name

-- an entry has an answer that counts, which came in this line, to a procedure that isn't in the table and is described so
pub record IsDescribedAnswer (r : Entry) (d : DescriptionSeen) (line : List ℕ) : Type 0 where
  pub raw : RawCall
  pub call_is : r.command.call ≡ Raw raw
  pub described_is : r.described ≡ Some d
  pub answer : Answer
  pub counts : counted_answer r.end ≡ Some answer
  pub line_is : line_of r.end ≡ Some line

-- whether these names are new: a row has none of them, whatever was answered, and no quantity of the table has one
abbrev pub are_new : (columns : List (List ℕ)) → Bool
are_new columns = list_all (λ name. not (is_among name names_of_row) && not (is_among name quantity_names)) columns

-- whether no two of these names are the same
abbrev pub are_distinct : List (List ℕ) → Bool
are_distinct [] = true
are_distinct (name ∷ names) = not (is_among name names) && are_distinct names

-- a reader gets under the name of each quantity, of those of the table and of those that descriptions add, the value of this name
pub record DescribedColumnsHoldTheirValues : Type 0 where
  -- in a row: that of the line, and nothing if it has none of this name
  pub row :
      (r : Entry) (d : DescriptionSeen) (line : List ℕ) (name : List ℕ) → IsDescribedAnswer r d line → are_new r.columns ≡ true
      → is_among name (quantity_names ++ r.columns) ≡ true
      → under name (header true r.columns) (map escaped (row_fields true r)) ≡ escaped (value_text (described_value d line name))
  -- in an object
  pub object :
      (r : Entry) (d : DescriptionSeen) (line : List ℕ) (name : List ℕ) → IsDescribedAnswer r d line → are_columns d.values ≡ true
      → is_named name d.values ≡ true
      → text_of (get_member name (record_read r.when.run (members_after_run r))) ≡ escaped (value_text (described_value d line name))
  -- nothing in the row of a command whose answer doesn't count
  pub unanswered :
      (r : Entry) (name : List ℕ) → counted_answer r.end ≡ None → are_new r.columns ≡ true → is_among name (quantity_names ++ r.columns) ≡ true
      → under name (header true r.columns) (map escaped (row_fields true r)) ≡ []
  -- and under the added names nothing in the row of a call of the table
  pub of_table :
      (r : Entry) (call : Call) (name : List ℕ) → r.command.call ≡ Table call → are_new r.columns ≡ true → is_among name r.columns ≡ true
      → under name (header true r.columns) (map escaped (row_fields true r)) ≡ []

-- the names of a wide row: those before the quantities, the quantities of the table, the added ones, and the last; no two are the same
pub record AddedColumnsFollow : Type 0 where
  pub order : (columns : List (List ℕ))
      → header true columns ≡ first_names ++ (quantity_names ++ (columns ++ map (λ c. c.name) last_columns))
  pub distinct : (columns : List (List ℕ)) → are_new columns ≡ true → are_distinct columns ≡ true → are_distinct (header true columns) ≡ true
