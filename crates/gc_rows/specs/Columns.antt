-- Columns: the names under which a record holds something, in their order, and what it holds under each. They are the columns of a
-- row and the members of an object, and this project's own.
use Rattle.gc_rows.specs.Common.{answer_fields, Answer, Asked, Table, Raw, value_fault_number, ValueFault, Value, before, behind, DescriptionSeen, description_seen, End, Answered, ending_seen, word_of, fault_of, line_of, quality_of, quality_text}
use Rattle.std.specs.Prelude.{ℕ, ◌+◌, Bool, true, false, List, [], ◌∷◌, ◌++◌, map, Option, Some, None, option_map, codes}
use Rattle.gc_texts.specs.declared.quality.Quality.{Quality}
use Rattle.gc_texts.specs.declared.quality.Quality.TheVariants.{Unconfirmed}
use Rattle.gc_texts.specs.declared.wish.Wish.{Wish}
use Rattle.gc_rows.specs.Cells.{Content, Blank, Bytes, Moment, Whole, Code, Quantity, Items, Cell, cell, fields_of, lookup, members_of}
use Rattle.gc_rows.specs.DescribedCells.{cells_of_values}
use Rattle.gc_rows.specs.Items.{split_items}
use Rattle.gc_rows.specs.JsonLines.{Member}
use Rattle.gc_rows.specs.Quantities.{column_of, quantity_name, quantity_names}
use Rattle.gc_rows.specs.Rows.{com_of, code_of, values_of, procedure_of, request_sent}
use Rattle.gc_rows.specs.declared.record.EndedCommand.{EndedCommand}
use Rattle.gc_rows.specs.declared.when.When.{When}

-- an entry is what a record is written of: when a command was sent and ended, the name of its target, the command, how it ended, the
-- description of its procedure, if it has one, and the names of the columns that the text's descriptions add to the table's
pub record Entry : Type 0 where
  pub when : When
  pub name : List ℕ
  pub command : Wish
  pub end : End
  pub described : Option DescriptionSeen
  pub columns : List (List ℕ)

-- a command that ended, as an entry
abbrev pub entry_seen : EndedCommand → Entry
entry_seen ended = record {
  when = ended.when;
  name = ended.name.now;
  command = ended.command.now;
  end = ending_seen ended.ending;
  described = option_map (λ d. description_seen d.now) ended.described;
  columns = map (λ n. n.items) ended.columns.now;
}

-- a column: its name, and what the record of an entry holds under it
pub record Column : Type 0 where
  pub name : List ℕ
  pub holds : Entry → Content

-- the column of this name, under which a record holds this
abbrev pub column : (name : List ℕ) → (holds : Entry → Content) → Column
column name holds = record { name = name; holds = holds }

-- What a record holds under its columns.

-- a moment, if there is one
abbrev pub moment_content : Option ℕ → Content
moment_content None = Blank
moment_content (Some utc) = Moment utc

-- these bytes, if there are any
abbrev pub bytes_content : List ℕ → Content
bytes_content [] = Blank
bytes_content (b ∷ bs) = Bytes (b ∷ bs)

-- the number of a fault, if there is one
abbrev pub fault_content : Option ValueFault → Content
fault_content None = Blank
fault_content (Some fault) = Whole (value_fault_number fault)

-- what is cut from the reply's line (`cut`), if there is a line
abbrev pub line_content : (cut : List ℕ → Content) → Option (List ℕ) → Content
line_content cut None = Blank
line_content cut (Some line) = cut line

-- the answer that an ending has
abbrev pub answer_of : End → Option Answer
answer_of (Answered quality answer line) = answer
answer_of _ = None

-- an answer of this quality, if it isn't unconfirmed
abbrev pub unless_unconfirmed : Quality → Option Answer → Option Answer
unless_unconfirmed Unconfirmed answer = None
unless_unconfirmed _ answer = answer

-- the answer whose quantities or items a record has: that of the ending; none if it is unconfirmed
abbrev pub counted_answer : End → Option Answer
counted_answer (Answered quality answer line) = unless_unconfirmed quality answer
counted_answer _ = None

-- the cells of values, the first of which has the name of this column, and each other that of the next; `came` are the same values
-- as the reply's line wrote them, with commas between them
abbrev pub value_cells : (column : ℕ) → List Value → (came : List ℕ) → List Cell
value_cells column [] came = []
value_cells column (v ∷ vs) came = cell (quantity_name column) (Quantity v (before 44 came)) ∷ value_cells (column + 1) vs (behind 44 came)

-- the cells of values from this column on (`value_cells`); none if there is no column
abbrev pub cells_from : Option ℕ → List Value → (came : List ℕ) → List Cell
cells_from (Some first) values came = value_cells first values came
cells_from None values came = []

-- the cells of an answer to a procedure that isn't in the table, whose description this is, if it has one
abbrev pub raw_cells : Option DescriptionSeen → (line : List ℕ) → List Cell
raw_cells described line = cells_of_values described (values_of line)

-- the cells of the quantities of an answer to `asked`, which came in this line: of a procedure that isn't in the table, those that its
-- description names
abbrev pub answer_cells : Asked → Option DescriptionSeen → Answer → (line : List ℕ) → List Cell
answer_cells (Table call) described answer line = cells_from (column_of call answer) (answer_fields answer).values (values_of line)
answer_cells (Raw raw) described answer line = raw_cells described line

-- the cells of this answer in this line (`answer_cells`), if there are both
abbrev pub cells_if : Asked → Option DescriptionSeen → Option Answer → (line : Option (List ℕ)) → List Cell
cells_if asked described (Some answer) (Some line) = answer_cells asked described answer line
cells_if asked described _ _ = []

-- the cells of a record's quantities
abbrev pub end_cells : Asked → Option DescriptionSeen → End → List Cell
end_cells asked described end = cells_if asked described (counted_answer end) (line_of end)

-- those of them that a description names
abbrev pub named_cells : Asked → Option DescriptionSeen → End → List Cell
named_cells (Table call) described end = []
named_cells (Raw raw) described end = end_cells (Raw raw) described end

-- a cell for each of these names: the one among these cells that has it, or a blank one
abbrev pub cells_named : (names : List (List ℕ)) → List Cell → List Cell
cells_named names cells = map (λ name. cell name (lookup name cells)) names

-- a cell for each quantity (`cells_named`)
abbrev pub all_quantities : List Cell → List Cell
all_quantities cells = cells_named quantity_names cells

-- these items, if there are any
abbrev pub split_content : Option (List (List ℕ)) → Content
split_content None = Blank
split_content (Some items) = Items items

-- the items into which the values of this line split, if the procedure isn't in the table, and they split
abbrev pub line_items : Asked → (line : List ℕ) → Content
line_items (Table call) line = Blank
line_items (Raw raw) line = split_content (split_items (values_of line))

-- the items of this answer in this line (`line_items`), if there are both
abbrev pub items_if_any : Asked → Option Answer → (line : Option (List ℕ)) → Content
items_if_any asked (Some answer) (Some line) = line_items asked line
items_if_any asked _ _ = Blank

-- the items of a record
abbrev pub items_content : Asked → End → Content
items_content asked end = items_if_any asked (counted_answer end) (line_of end)

-- the cells of the quantities of an entry's answer
abbrev pub quantity_cells : Entry → List Cell
quantity_cells r = end_cells r.command.call r.described r.end

-- those of them that a description names
abbrev pub described_part : Entry → List Cell
described_part r = named_cells r.command.call r.described r.end

-- the items of an entry's answer
abbrev pub item_content : Entry → Content
item_content r = items_content r.command.call r.end

-- the request line of an entry, as it was sent, without CR LF; empty if none was sent
abbrev pub line_sent : Entry → List ℕ
line_sent r = request_sent r.when.stamp.sent r.when.stamp.id r.command.call

-- The columns.

-- the column of the moment at which a record's run began
abbrev pub run_column : Column
run_column = column (codes "run") (λ r. Moment r.when.run)

-- the columns between `run` and the quantities
abbrev pub first_columns : List Column
first_columns =
    column (codes "sent") (λ r. moment_content r.when.stamp.sent)
    ∷ column (codes "time") (λ r. Moment r.when.stamp.utc)
    ∷ column (codes "cycle") (λ r. Whole r.when.stamp.cycle)
    ∷ column (codes "step") (λ r. Whole r.when.stamp.turn.place)
    ∷ column (codes "target") (λ r. Whole r.command.target)
    ∷ column (codes "name") (λ r. bytes_content r.name)
    ∷ column (codes "procedure") (λ r. Whole (procedure_of r.command.call))
    ∷ column (codes "outcome") (λ r. Bytes (word_of r.end))
    ∷ column (codes "fault") (λ r. fault_content (fault_of r.end))
    ∷ column (codes "rc_com") (λ r. line_content (λ line. Code (com_of line)) (line_of r.end))
    ∷ column (codes "rc") (λ r. line_content (λ line. Code (code_of line)) (line_of r.end))
    ∷ column (codes "values") (λ r. line_content (λ line. Bytes (values_of line)) (line_of r.end))
    ∷ []

-- the columns of the quantities of the table's procedures
abbrev pub table_columns : List Column
table_columns = map (λ name. column name (λ r. lookup name (quantity_cells r))) quantity_names

-- the columns with these names, which descriptions of procedures add to the table's
abbrev pub new_columns : (names : List (List ℕ)) → List Column
new_columns names = map (λ name. column name (λ r. lookup name (described_part r))) names

-- the columns of the quantities, where a record has them: those of the table's procedures, and then those of these names
abbrev pub quantity_columns : (has_quantities : Bool) → (names : List (List ℕ)) → List Column
quantity_columns true names = table_columns ++ new_columns names
quantity_columns false names = []

-- the column of the items of an answer to a procedure that isn't in the table
abbrev pub items_column : Column
items_column = column (codes "items") (λ r. item_content r)

-- the columns after all others: the quality of the answer, the attempt of the command's chain or, for a command of the setup, of the
-- setup, and the request line as it was sent
abbrev pub last_columns : List Column
last_columns =
    column (codes "quality") (λ r. bytes_content (quality_text (quality_of r.end)))
    ∷ column (codes "attempt") (λ r. Whole r.when.stamp.turn.attempt)
    ∷ column (codes "request") (λ r. bytes_content (line_sent r))
    ∷ []

-- the columns of a row, without those of the quantities, or with them and with those of these names
abbrev pub row_columns : (has_quantities : Bool) → (names : List (List ℕ)) → List Column
row_columns has_quantities names = run_column ∷ (first_columns ++ (quantity_columns has_quantities names ++ last_columns))

-- the columns whose names an object may have, whatever the text describes
abbrev pub object_columns : List Column
object_columns = run_column ∷ (first_columns ++ (table_columns ++ items_column ∷ last_columns))

-- Rows and objects.

-- what a record holds in these columns
abbrev pub cells_in : List Column → Entry → List Cell
cells_in columns r = map (λ c. cell c.name (c.holds r)) columns

-- the fields of a record's row
abbrev pub row_fields : (has_quantities : Bool) → Entry → List (List ℕ)
row_fields has_quantities r = fields_of (cells_in (row_columns has_quantities r.columns) r)

-- the cells of a record's object after the first, which is `run`: those of its quantities are in the order of the answer's values
abbrev pub cells_after_run : Entry → List Cell
cells_after_run r = cells_in first_columns r ++ (quantity_cells r ++ cells_in (items_column ∷ last_columns) r)

-- the members of a record's object after the first, which is `run`
abbrev pub members_after_run : Entry → List Member
members_after_run r = members_of (cells_after_run r)

-- the cells of a record's object
abbrev pub object_cells : Entry → List Cell
object_cells r = cells_in (run_column ∷ []) r ++ cells_after_run r
