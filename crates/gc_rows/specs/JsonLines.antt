-- Lines of JSON: a record as one object, whose members' names are this project's own. A string is printable ASCII: other bytes
-- are written as `\x` and two digits, and so is a backslash, as in a row; and then each backslash and each double quote comes
-- after a backslash.
use Rattle.gc_rows.specs.Common.{flat_map, Value, escaped, stamp_text}
use Rattle.std.specs.Prelude.{ℕ, ◌==◌, ◌||◌, Bool, true, false, List, [], ◌∷◌, ◌++◌, if◌then◌else◌, codes}
use Rattle.gc_rows.specs.Quantities.{quantity_text}
use Rattle.gc_values.specs.declared.value.Value.TheVariants as value

-- a printable byte as it is written in a string: a double quote and a backslash after a backslash, any other unchanged
abbrev pub behind_backslash : ℕ → List ℕ
behind_backslash b = if (b == 34) || (b == 92) then 92 ∷ b ∷ [] else b ∷ []

-- a string of JSON, with its double quotes, that holds these bytes, escaped first as in a log line
abbrev pub string_text : List ℕ → List ℕ
string_text bytes = codes "\"" ++ flat_map behind_backslash (escaped bytes) ++ codes "\""

-- a member of an object: its name, and its value, which is a string that holds these bytes, a number with these digits, or a list of
-- strings that hold these bytes
pub data Member : Type 0 where
  Text : (name bytes : List ℕ) → Member
  Number : (name digits : List ℕ) → Member
  Texts : (name : List ℕ) (texts : List (List ℕ)) → Member

-- what a member with this name begins with: a comma, the name in double quotes, and a colon
abbrev pub member_front : (name : List ℕ) → List ℕ
member_front name = codes ",\"" ++ name ++ codes "\":"

-- a member that is a string of these bytes, as it is written
abbrev pub text_member : (name bytes : List ℕ) → List ℕ
text_member name bytes = member_front name ++ string_text bytes

-- a member that is a number with these digits, as it is written
abbrev pub number_member : (name digits : List ℕ) → List ℕ
number_member name digits = member_front name ++ digits

-- the comma before an item of a list, if another item is before it (`after_another`); else nothing
abbrev pub comma_where : (after_another : Bool) → List ℕ
comma_where true = codes ","
comma_where false = []

-- strings that hold these bytes, with commas between them, and one before the first if another string is before it (`after_another`)
abbrev pub strings_text : (after_another : Bool) → List (List ℕ) → List ℕ
strings_text after_another [] = []
strings_text after_another (bytes ∷ others) = comma_where after_another ++ (string_text bytes ++ strings_text true others)

-- a list of strings that hold these bytes
abbrev pub list_text : List (List ℕ) → List ℕ
list_text texts = codes "[" ++ (strings_text false texts ++ codes "]")

-- a member that is a list of strings of these bytes, as it is written
abbrev pub texts_member : (name : List ℕ) → (texts : List (List ℕ)) → List ℕ
texts_member name texts = member_front name ++ list_text texts

-- a member as it is written
abbrev pub member_text : Member → List ℕ
member_text (Text name bytes) = text_member name bytes
member_text (Number name digits) = number_member name digits
member_text (Texts name texts) = texts_member name texts

-- members as they are written, in order
abbrev pub members_text : List Member → List ℕ
members_text members = flat_map member_text members

-- the line of JSON of a record, with its line feed: the moment at which its run began, and these members
abbrev pub json_line : ℕ → List Member → List ℕ
json_line run members = codes "{\"run\":" ++ string_text (stamp_text run) ++ members_text members ++ codes "}\n"

-- digits without leading zeros; of zeros alone the last stays, and no digits stay none
abbrev pub without_zeros : List ℕ → List ℕ
without_zeros [] = []
without_zeros (b ∷ []) = b ∷ []
without_zeros (b ∷ c ∷ rest) = if b == 48 then without_zeros (c ∷ rest) else b ∷ c ∷ rest

-- the members of a value under this name. A text gives one, its bytes. Any other value gives two: the number that it is as a
-- quantity (`quantity_text`), and, under the name with `_text`, the value as the reply's line wrote it (`came`)
abbrev pub value_members : (name : List ℕ) → Value → (came : List ℕ) → List Member
value_members name (value.Text bytes) came = Text name bytes ∷ []
value_members name v came = Number name (quantity_text v) ∷ Text (name ++ codes "_text") came ∷ []
