-- Rows: a record as a row of comma-separated values. How a field is quoted is RFC 4180's. Each field is printable ASCII: other
-- bytes are written as `\x` and two digits, and so is a backslash.
use Rattle.gc_rows.specs.Common.{decimal, flat_map, list_any, answer_fields, Answer, Asked, Call, Value, value_fault_number, ValueFault, before, behind, escaped, stamp_text}
use Rattle.std.specs.Prelude.{ℕ, ◌≡◌, ◌+◌, ◌-◌, ◌%◌, ◌≤◌, ◌==◌, ◌||◌, Bool, List, [], ◌∷◌, ◌++◌, length, map, replicate, Option, Some, None, if◌then◌else◌, codes}
use Rattle.gc_rows.specs.declared.cell.ReplyTexts.{ReplyTexts}
use Rattle.gc_rows.specs.declared.quantity.TheConstants.{QUANTITIES}
use Rattle.gc_rows.specs.Quantities.{column_of, quantity_text}
pub use Rattle.gc_catalogue.specs.Asked.{asked_line, procedure_of}

-- RC_COM of a reply's line `%R1P,RC_COM,ID:RC,VALUES`, as it is written. The id and the values may be missing
abbrev pub com_of : List ℕ → List ℕ
com_of line = before 44 (before 58 (behind 44 line))

-- RC of a reply's line, as it is written
abbrev pub code_of : List ℕ → List ℕ
code_of line = before 44 (behind 58 (behind 44 line))

-- VALUES of a reply's line, as they are written
abbrev pub values_of : List ℕ → List ℕ
values_of line = behind 44 (behind 58 (behind 44 line))

-- the parts that were cut out of a reply's line are each no longer than the line
abbrev pub AreNoLonger : ReplyTexts → (line : List ℕ) → Type 0
AreNoLonger texts line =
    (length texts.com.now ≤ length line) × (length texts.code.now ≤ length line) × (length texts.values.now ≤ length line)

-- a text was appended to the bytes `old`, which are then `new`, and took at most `most` bytes
pub record Adds (old new added : List ℕ) (most : ℕ) : Type 0 where
  pub text : new ≡ old ++ added
  pub room : length new ≤ length old + most

-- whether a byte may occur in a field only within quotes: a comma, a double quote, CR or LF
abbrev pub is_special : ℕ → Bool
is_special b = (b == 44) || (b == 34) || (b == 13) || (b == 10)

-- a byte as it is written within quotes: a double quote twice, any other byte as it is
abbrev pub within_quotes : ℕ → List ℕ
within_quotes b = if b == 34 then 34 ∷ 34 ∷ [] else b ∷ []

-- a text as a field: within double quotes, and each double quote doubled, if a byte of it needs that; else as it is
abbrev pub csv_field : List ℕ → List ℕ
csv_field text = if list_any is_special text then codes "\"" ++ flat_map within_quotes text ++ codes "\"" else text

-- a field that holds these bytes, escaped as in a log line
abbrev pub field_text : List ℕ → List ℕ
field_text bytes = csv_field (escaped bytes)

-- a field that holds these bytes, after a comma
abbrev pub behind_comma : List ℕ → List ℕ
behind_comma bytes = 44 ∷ field_text bytes

-- fields that hold these bytes, each after a comma
abbrev pub fields_behind_commas : List (List ℕ) → List ℕ
fields_behind_commas fields = flat_map behind_comma fields

-- the row, with its line feed, whose fields hold these bytes
abbrev pub row_of : List (List ℕ) → List ℕ
row_of [] = codes "\n"
row_of (first ∷ others) = field_text first ++ fields_behind_commas others ++ codes "\n"

-- the text of a moment; empty if there is none
abbrev pub moment_text : Option ℕ → List ℕ
moment_text None = []
moment_text (Some utc) = stamp_text utc

-- the number of a fault in digits; empty if there is no fault
abbrev pub fault_field : Option ValueFault → List ℕ
fault_field None = []
fault_field (Some fault) = decimal (value_fault_number fault)

-- the request line for what was asked, as it was sent with this id, without CR LF; empty if none was sent. An id is below 8, and so is
-- its own remainder
abbrev pub request_sent : (sent : Option ℕ) → (id : ℕ) → Asked → List ℕ
request_sent None id asked = []
request_sent (Some utc) id asked = asked_line (Some (id % 8)) asked

-- the texts of an answer's values, in order
abbrev pub value_texts : Answer → List (List ℕ)
value_texts answer = map quantity_text (answer_fields answer).values

-- a value of an answer as a field (`quantity_text`), after a comma
abbrev pub value_behind_comma : Value → List ℕ
value_behind_comma value = behind_comma (quantity_text value)

-- the texts in the columns of quantities, if they fit: one after the other, the first in column `first`, counted from 0, and the other
-- columns are empty
abbrev pub spread : (first : ℕ) → (texts : List (List ℕ)) → List (List ℕ)
spread first texts = replicate first [] ++ (texts ++ replicate (QUANTITIES - first - length texts) [])

-- the texts from this column of quantities on (`spread`); all columns are empty if there is none
abbrev pub columns_from : Option ℕ → (texts : List (List ℕ)) → List (List ℕ)
columns_from (Some first) texts = spread first texts
columns_from None texts = replicate QUANTITIES []

-- the quantities of an answer to a call, each in its column; all columns are empty if the answer has no quantity
abbrev pub answer_columns : Call → Answer → List (List ℕ)
answer_columns call answer = columns_from (column_of call answer) (value_texts answer)
