-- Cells: a record is one list of named cells. A row is one fold over this list, and an object another. A blank cell is an empty field,
-- and no member.
use Rattle.gc_rows.specs.Common.{decimal, AllByRecursion, flat_map, bytes_eq, Value, stamp_text}
use Rattle.std.specs.Prelude.{ℕ, ◌+◌, ◌*◌, ◌≤◌, List, [], ◌∷◌, length, map, if◌then◌else◌}
use Rattle.gc_rows.specs.JsonLines.{Member, Text, Number, Texts, without_zeros, value_members}
use Rattle.gc_rows.specs.Quantities.{quantity_text}
use Rattle.gc_rows.specs.declared.cell.Cell.{Cell as CodeCell}
use Rattle.gc_rows.specs.declared.cell.Content.{Content as CodeContent}
use Rattle.gc_rows.specs.declared.cell.TheConstants.{MOMENT_ROOM, NUMBER_ROOM, NAME_ROOM}
use Rattle.gc_rows.specs.declared.cell.Content.TheVariants as code

-- what a cell holds
pub data Content : Type 0 where
  Blank : Content
  -- bytes, which may be any
  Bytes : (bytes : List ℕ) → Content
  -- a moment, in milliseconds since 1970-01-01, UTC
  Moment : (utc : ℕ) → Content
  -- a whole number
  Whole : (n : ℕ) → Content
  -- a code of a reply, in digits as its line has them
  Code : (digits : List ℕ) → Content
  -- a quantity, and how the reply's line wrote it
  Quantity : (v : Value) → (came : List ℕ) → Content
  -- the items of a raw answer: a member of an object, and an empty field
  Items : (items : List (List ℕ)) → Content

-- a cell of a record
pub record Cell : Type 0 where
  pub name : List ℕ
  pub content : Content

-- the cell of this name with this content
abbrev pub cell : (name : List ℕ) → Content → Cell
cell name content = record { name = name; content = content }

-- the bytes of a cell's field
abbrev pub field_of : Content → List ℕ
field_of Blank = []
field_of (Bytes bytes) = bytes
field_of (Moment utc) = stamp_text utc
field_of (Whole n) = decimal n
field_of (Code digits) = digits
field_of (Quantity v came) = quantity_text v
field_of (Items items) = []

-- a cell's members
abbrev pub members_in : (name : List ℕ) → Content → List Member
members_in name Blank = []
members_in name (Bytes bytes) = Text name bytes ∷ []
members_in name (Moment utc) = Text name (stamp_text utc) ∷ []
members_in name (Whole n) = Number name (decimal n) ∷ []
members_in name (Code digits) = Number name (without_zeros digits) ∷ []
members_in name (Quantity v came) = value_members name v came
members_in name (Items items) = Texts name items ∷ []

-- the names of cells
abbrev pub names_of : List Cell → List (List ℕ)
names_of cells = map (λ c. c.name) cells

-- a row of cells: the bytes of each field
abbrev pub fields_of : List Cell → List (List ℕ)
fields_of cells = map (λ c. field_of c.content) cells

-- an object of cells: its members
abbrev pub members_of : List Cell → List Member
members_of cells = flat_map (λ c. members_in c.name c.content) cells

-- what the first cell of this name holds; nothing if no cell has it
abbrev pub lookup : (name : List ℕ) → List Cell → Content
lookup name [] = Blank
lookup name (c ∷ cells) = if bytes_eq c.name name then c.content else lookup name cells

-- The code's cells.

-- what a cell of the code holds
abbrev pub content_seen : CodeContent → Content
content_seen code.Blank = Blank
content_seen (code.Bytes bytes) = Bytes bytes.now
content_seen (code.Moment utc) = Moment utc
content_seen (code.Whole n) = Whole n
content_seen (code.Code digits) = Code digits.now

-- a cell of the code
abbrev pub cell_seen : CodeCell → Cell
cell_seen c = cell c.0.now (content_seen c.1)

-- the most bytes of a cell's field, with its comma
abbrev pub field_room : Content → ℕ
field_room (Bytes bytes) = 8 * length bytes + 3
field_room (Code digits) = 8 * length digits + 3
field_room (Moment utc) = MOMENT_ROOM
field_room (Whole n) = NUMBER_ROOM
field_room _ = 1

-- the most bytes of the fields of cells, with their commas
abbrev pub fields_room : List Cell → ℕ
fields_room [] = 0
fields_room (c ∷ cells) = field_room c.content + fields_room cells

-- the most bytes of a cell's member
abbrev pub member_room : Content → ℕ
member_room (Code digits) = NAME_ROOM + length digits
member_room content = NAME_ROOM + field_room content

-- the most bytes of the members of cells
abbrev pub members_room : List Cell → ℕ
members_room [] = 0
members_room (c ∷ cells) = member_room c.content + members_room cells

-- the bytes that a cell holds, if it holds any, are at most so many
abbrev pub IsShortContent : ℕ → Content → Type 0
IsShortContent most (Bytes bytes) = length bytes ≤ most
IsShortContent most (Code digits) = length digits ≤ most
IsShortContent most _ = Unit {0}

-- a cell's bytes are at most `most`, and its field and its member within these rooms
pub record IsWithin (most field member : ℕ) (content : Content) : Type 0 where
  pub is_short : IsShortContent most content
  pub field_fits : field_room content ≤ field
  pub member_fits : member_room content ≤ member

-- the names and bytes of cells are short enough to be written
abbrev pub AreShort : List Cell → Type 0
AreShort cells = AllByRecursion (λ c. (length c.name ≤ 32) × IsShortContent 514 c.content) cells
