-- The fields of a row under names, of which each shows what the cell of its name holds.
use Rattle.gc_rows.specs.Common.{Answer, Asked, Table, Raw, Value, DescriptionSeen, FieldSeen, value_under}
use Rattle.std.specs.Prelude.{ℕ, Bool, ◌++◌, List, [], length, map, replicate, Option, Some, None}
use Rattle.gc_rows.specs.Cells.{Cell, field_of, fields_of, lookup}
use Rattle.gc_rows.specs.Columns.{Entry, cells_in, quantity_columns, raw_cells}
use Rattle.gc_rows.specs.Quantities.{quantity_names, quantity_text}
use Rattle.gc_rows.specs.Rows.{answer_columns}

-- the text of a value as a quantity; empty if there is none
abbrev pub value_text : Option Value → List ℕ
value_text None = []
value_text (Some v) = quantity_text v

-- the text of the value under a name, of values in the order of these fields; empty if there is none
abbrev pub text_under : List FieldSeen → List Value → (name : List ℕ) → List ℕ
text_under fields values name = value_text (value_under name fields values)

-- the fields under these names, of cells
abbrev pub named_fields : (names : List (List ℕ)) → List Cell → List (List ℕ)
named_fields names cells = map (λ name. field_of (lookup name cells)) names

-- the fields of the quantities of this answer, which came in this line, to `asked`, a procedure that is described so, where descriptions
-- add these columns
abbrev pub fields_asked : Asked → Option DescriptionSeen → (columns : List (List ℕ)) → Answer → (line : List ℕ) → List (List ℕ)
fields_asked (Table call) described columns answer line = answer_columns call answer ++ replicate (length columns) []
fields_asked (Raw raw) described columns answer line = named_fields (quantity_names ++ columns) (raw_cells described line)

-- the fields of the quantities of this answer, which came in this line, to what an entry's command asked
abbrev pub answer_fields_in : Entry → Answer → (line : List ℕ) → List (List ℕ)
answer_fields_in r answer line = fields_asked r.command.call r.described r.columns answer line

-- the fields of a record's quantities, where it has them
abbrev pub quantity_fields : (has_quantities : Bool) → Entry → List (List ℕ)
quantity_fields has_quantities r = fields_of (cells_in (quantity_columns has_quantities r.columns) r)
