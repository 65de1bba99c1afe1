-- What a reader gets of a record: under each name, what the record's cell of this name holds. This project's own.
use Rattle.gc_rows.specs.Common.{decimal, list_all, list_any, bytes_eq, get_member, IsSmallNumber, escaped, stamp_text, are_columns, names_of_row, DescriptionSeen}
use Rattle.std.specs.Prelude.{◌≡◌, ◌⊎◌, ℕ, ◌&&◌, Bool, true, not, List, [], ◌∷◌, ◌++◌, map, Option, None, Some, if◌then◌else◌, codes}
use Rattle.gc_rows.specs.Cells.{Content, Blank, Bytes, Moment, Whole, Code, Quantity, Items, lookup, names_of}
use Rattle.gc_rows.specs.Columns.{Entry, cells_in, members_after_run, object_cells, object_columns, row_columns, row_fields}
use Rattle.gc_rows.specs.Laws.{record_read}
use Rattle.gc_rows.specs.Quantities.{quantity_names, quantity_text}
use Rattle.gc_rows.specs.Records.{header}
use Rattle.json.specs.Json as json

-- the field that is under a name, in a row whose fields are under these names; an empty one if there is no such name or
-- no field for it
abbrev pub under : (name : List ℕ) → (names fields : List (List ℕ)) → List ℕ
under name [] fields = []
under name (n ∷ names) [] = []
under name (n ∷ names) (field ∷ fields) = if bytes_eq n name then field else under name names fields

-- the digits of a number or the bytes of a string; empty if there is neither
abbrev pub text_of : Option json.Json → List ℕ
text_of (Some (json.number digits)) = digits
text_of (Some (json.string bytes)) = bytes
text_of _ = []

-- `shown` is what a reader of a row or of an object gets of a cell that holds this: its bytes, escaped; a moment, a whole number and a
-- quantity as they are written; of a code the same number; of items, which are no text, nothing
abbrev pub IsShown : Content → (shown : List ℕ) → Type 0
IsShown Blank shown = shown ≡ []
IsShown (Bytes bytes) shown = shown ≡ escaped bytes
IsShown (Moment utc) shown = shown ≡ stamp_text utc
IsShown (Whole n) shown = shown ≡ decimal n
IsShown (Code digits) shown = (n : ℕ) → IsSmallNumber digits n → IsSmallNumber shown n
IsShown (Quantity v came) shown = shown ≡ escaped (quantity_text v)
IsShown (Items items) shown = shown ≡ []

-- whether a name is among these
abbrev pub is_among : (name : List ℕ) → List (List ℕ) → Bool
is_among name names = list_any (λ n. bytes_eq n name) names

-- whether no member of a cell with one of these names has this name: it is neither such a name nor one with `_text` after it
abbrev pub is_apart : (name : List ℕ) → List (List ℕ) → Bool
is_apart name names = list_all (λ n. not (bytes_eq n name) && not (bytes_eq (n ++ codes "_text") name)) names

-- whether at most one member of cells with these names has this name, and it is the first one of its cell
abbrev pub is_single : (name : List ℕ) → List (List ℕ) → Bool
is_single name [] = true
is_single name (n ∷ names) = not (bytes_eq (n ++ codes "_text") name) && (if bytes_eq n name then is_apart name names else is_single name names)

-- whether each of these names is single among them all (`is_single`)
abbrev pub are_single : List (List ℕ) → Bool
are_single names = list_all (λ name. is_single name names) names

-- the names of the columns of an object
abbrev pub object_names : List (List ℕ)
object_names = map (λ c. c.name) object_columns

-- the columns of a description, if there is one, may be those of one answer, so that no two have one name, and none has a name that a
-- record has whatever was answered (`are_columns`)
abbrev pub HasColumns : Option DescriptionSeen → Type 0
HasColumns None = Unit {0}
HasColumns (Some d) = are_columns d.values ≡ true

-- a name that a record has whatever was answered, or that of a quantity of the table
abbrev pub IsKnownName : List ℕ → Type 0
IsKnownName name = (is_among name names_of_row ≡ true) ⊎ (is_among name quantity_names ≡ true)

-- a reader gets of a record under a name what the record's cell of this name holds
pub record RecordsReadBack : Type 0 where
  -- in a row, under any name
  pub row :
      (has_quantities : Bool) (r : Entry) (name : List ℕ)
      → IsShown (lookup name (cells_in (row_columns has_quantities r.columns) r)) (under name (header has_quantities r.columns) (map escaped (row_fields has_quantities r)))
  -- in an object, under any name that at most one member has (`is_single`)
  pub object :
      (r : Entry) (name : List ℕ) → is_single name (names_of (object_cells r)) ≡ true
      → IsShown (lookup name (object_cells r)) (text_of (get_member name (record_read r.when.run (members_after_run r))))
  -- in an object, under a name that an object may have whatever the text describes: one that each record has, or that of a quantity of
  -- the table
  pub known :
      (r : Entry) (name : List ℕ) → HasColumns r.described → IsKnownName name
      → IsShown (lookup name (cells_in object_columns r)) (text_of (get_member name (record_read r.when.run (members_after_run r))))
  -- no two columns have one name
  pub single : are_single object_names ≡ true
