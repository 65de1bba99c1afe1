-- The cells of an answer to a described procedure: each value that its description names, under this name. This project's own.
use Rattle.gc_rows.specs.Common.{Value, DescriptionSeen, FieldSeen, KindsSeen, kinds_of_fields}
use Rattle.std.specs.Prelude.{ℕ, List, [], ◌∷◌, drop, Option, Some, None, get_or}
use Rattle.gc_rows.specs.Cells.{Cell, Content, Blank, Quantity, cell}
use Rattle.gc_rows.specs.Items.{items_of}
use Rattle.gc_rows.specs.ValueReading.{values_read}

-- the kinds of the values of an answer to a procedure that is described so
abbrev pub answer_kinds : DescriptionSeen → KindsSeen
answer_kinds d = record { kinds = kinds_of_fields d.values; more = d.more }

-- the cells of values, one for each of these fields, with its name; `items` are the values as the reply's line wrote them
abbrev pub field_cells : List FieldSeen → List Value → (items : List (List ℕ)) → List Cell
field_cells [] values items = []
field_cells (f ∷ fs) [] items = []
field_cells (f ∷ fs) (v ∷ vs) items = cell f.name (Quantity v (get_or items 0 [])) ∷ field_cells fs vs (drop 1 items)

-- the cells of these values (`field_cells`), if there are any
abbrev pub field_cells_if : List FieldSeen → Option (List Value) → (items : List (List ℕ)) → List Cell
field_cells_if fields (Some values) items = field_cells fields values items
field_cells_if fields None items = []

-- the cells of an answer with these values, as the reply's line writes them, to a procedure that is described so; none if the values
-- aren't of the description's kinds
abbrev pub described_cells : DescriptionSeen → (values : List ℕ) → List Cell
described_cells d values = field_cells_if d.values (values_read (answer_kinds d) values) (items_of values)

-- these cells (`described_cells`), if there is a description
abbrev pub cells_of_values : Option DescriptionSeen → (values : List ℕ) → List Cell
cells_of_values None values = []
cells_of_values (Some d) values = described_cells d values

-- what a cell holds of this value
abbrev pub value_content : Option Value → (came : List ℕ) → Content
value_content None came = Blank
value_content (Some v) came = Quantity v came
