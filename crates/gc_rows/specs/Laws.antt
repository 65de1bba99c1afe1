-- Laws of the rows: this project's own, as the rows are.
use Rattle.gc_rows.specs.Common.{AllByRecursion, flat_map, DescriptionSeen, End, line_of, HaveNames, AreBytes, escaped, IsPrintable, stamp_text, IsFittingAnswer, Answer, IsSmallNumber, ReplyFields, IsReply, IsParams}
use Rattle.std.specs.Prelude.{◌≡◌, ◌≢◌, ◌<◌, ◌≤◌, ◌^◌, ℕ, List, [], ◌∷◌, ◌++◌, length, map, true, false, Option, Some, IfSome, codes}
use Rattle.csv.specs.Machine.{next_record}
use Rattle.csv.specs.Reading.{default_config, records_from}
use Rattle.json.specs.Json.{document}
use Rattle.json.specs.Print.{IsNumber}
use Rattle.csv.specs.declared.parser.State.TheVariants.{StartRecord}
use Rattle.gc_rows.specs.Records.{head_text, header}
use Rattle.gc_rows.specs.Items.{items_of}
use Rattle.gc_rows.specs.JsonLines.{Member, Text, Number, Texts, json_line}
use Rattle.gc_rows.specs.Columns.{Entry, answer_of, members_after_run}
use Rattle.gc_rows.specs.Rows.{com_of, code_of, values_of, row_of}
use Rattle.gc_rows.specs.declared.record.Form.TheVariants.{Csv, Columns}
use Rattle.gc_rows.specs.declared.when.When.{When}
use Rattle.json.specs.Json as json
use Rattle.gc_catalogue.specs.declared.answer.Answer.TheVariants as answers

-- the columns cut from a reply's line give its fields: `rc_com` and `rc` are the numbers of the reply's codes in digits, and `values` its
-- values as they are
pub record ColumnsGiveReply (line : List ℕ) (r : ReplyFields) : Type 0 where
  pub rc_com : IsSmallNumber (com_of line) r.rc_com
  pub rc : IsSmallNumber (code_of line) r.rc
  pub values : values_of line ≡ r.params

-- the columns of each reply's line are its fields
abbrev pub ColumnsAreFields : Type 0
ColumnsAreFields = (line : List ℕ) (r : ReplyFields) → IsReply line r → ColumnsGiveReply line r

-- if a text is a list of parameters by the grammar, its items (`items_of`) are these parameters, however many they are
abbrev pub ItemsAreTheGrammars : Type 0
ItemsAreTheGrammars = (text : List ℕ) (items : List (List ℕ)) → IsParams text items → items_of text ≡ items

-- a reader of comma-separated values gives this text back as a row of these fields, escaped, and goes on after the text
abbrev pub ReadsBackAs : (text : List ℕ) (fields : List (List ℕ)) → Type 0
ReadsBackAs text fields =
    (behind : List ℕ) → next_record default_config StartRecord [] [] (text ++ behind) ≡ Some (map escaped fields, StartRecord, behind)

-- rows read back by a reader of comma-separated values, whatever bytes their fields hold
pub record RowsReadBack : Type 0 where
  -- a row of two fields or more reads back as its fields, escaped
  pub row : (fields : List (List ℕ)) → 1 < length fields → ReadsBackAs (row_of fields) fields
  -- rows of two fields or more give a table of their fields, escaped
  pub table : (rows : List (List (List ℕ))) → AllByRecursion (λ fields. 1 < length fields) rows
      → records_from default_config (length rows) StartRecord (flat_map row_of rows) ≡ map (map escaped) rows
  -- what comes before all records is the row of the columns' names
  pub names : (columns : List (List ℕ)) → (head_text Csv columns ≡ row_of (header false columns)) × (head_text Columns columns ≡ row_of (header true columns))
  -- no two lists of bytes have one escaped form
  pub once : (xs ys : List ℕ) → AreBytes xs → AreBytes ys → escaped xs ≡ escaped ys → xs ≡ ys

-- a row whose fields hold bytes is printable, before its line feed
abbrev pub RowsArePrintable : Type 0
RowsArePrintable =
    (fields : List (List ℕ)) → AllByRecursion AreBytes fields → (text : List ℕ) × (row_of fields ≡ text ++ codes "\n") × IsPrintable text

-- a name that appears unchanged in a string: it has no byte below 32, no double quote and no backslash
abbrev pub IsPlainName : List ℕ → Type 0
IsPlainName name = AllByRecursion (λ b. (32 ≤ b) × ((b ≢ 34) × (b ≢ 92))) name

-- a member has a plain name, and its value is bytes, a number of JSON, or texts of bytes
abbrev pub IsPlainMember : Member → Type 0
IsPlainMember (Text name bytes) = IsPlainName name × AreBytes bytes
IsPlainMember (Number name digits) = IsPlainName name × IsNumber digits
IsPlainMember (Texts name texts) = IsPlainName name × AllByRecursion AreBytes texts

-- each of these members is plain (`IsPlainMember`)
abbrev pub ArePlainMembers : List Member → Type 0
ArePlainMembers members = AllByRecursion IsPlainMember members

-- texts as a reader of JSON gives them back as items of a list: each a string, whose bytes are escaped as in a row
abbrev pub texts_read : List (List ℕ) → json.Items
texts_read [] = json.no_items
texts_read (text ∷ texts) = json.item (json.string (escaped text)) (texts_read texts)

-- members as a reader of JSON gives them back, in their order: a text as a string, whose bytes are escaped as in a row, a number by its
-- digits, and texts as a list of strings
abbrev pub members_read : List Member → json.Members
members_read [] = json.no_members
members_read (Text name bytes ∷ members) = json.member name (json.string (escaped bytes)) (members_read members)
members_read (Number name digits ∷ members) = json.member name (json.number digits) (members_read members)
members_read (Texts name texts ∷ members) = json.member name (json.array (texts_read texts)) (members_read members)

-- what a line of JSON reads as: an object of the run's moment and these members
abbrev pub record_read : ℕ → List Member → json.Members
record_read run members = json.member (codes "run") (json.string (escaped (stamp_text run))) (members_read members)

-- a line of JSON whose run's moment has at most 64 bits and whose members are `IsPlainMember`, without its line feed, reads as an
-- object of that moment and these members, in their order
abbrev pub JsonLinesReadBack : Type 0
JsonLinesReadBack =
    (run : ℕ) (members : List Member) → run < 2 ^ 64 → ArePlainMembers members
    → (text : List ℕ) × (json_line run members ≡ text ++ codes "\n") × (document text ≡ Some (json.object (record_read run members)))

-- a line reads as a reply, and is of bytes, which are the numbers below 256
abbrev pub IsReplyOfBytes : List ℕ → Type 0
IsReplyOfBytes line = (r : ReplyFields) × IsReply line r × AreBytes line

-- an answer's numbers are within the ranges of their types, and its text, if it has one, holds bytes
abbrev pub IsAnswerOfBytes : Answer → Type 0
IsAnswerOfBytes (answers.Name bytes) = IsFittingAnswer (answers.Name bytes) × AreBytes bytes
IsAnswerOfBytes answer = IsFittingAnswer answer

-- the reply's line of an ending, if there is one, reads as a reply and is of bytes, and the ending's answer, if there is one,
-- holds numbers within their ranges, and bytes (`IsReplyOfBytes`, `IsAnswerOfBytes`)
abbrev pub IsEndOfBytes : End → Type 0
IsEndOfBytes end = IfSome (line_of end) IsReplyOfBytes × IfSome (answer_of end) IsAnswerOfBytes

-- the moments at which a record's command was sent and ended, its cycle, its place and its attempt have at most 64 bits each
pub record FitsIn64Bits (when : When) : Type 0 where
  pub sent : IfSome when.stamp.sent (λ utc. utc < 2 ^ 64)
  pub utc : when.stamp.utc < 2 ^ 64
  pub cycle : when.stamp.cycle < 2 ^ 64
  pub place : when.stamp.turn.place < 2 ^ 64
  pub attempt : when.stamp.turn.attempt < 2 ^ 64

-- the columns of a description, if there is one, have names of fields
abbrev pub HasFieldNames : Option DescriptionSeen → Type 0
HasFieldNames described = IfSome described (λ d. HaveNames d.values)

-- each member after the first of a record's line is plain (`IsPlainMember`), where the record's numbers have at most 64 bits, its texts
-- are of bytes (`FitsIn64Bits`, `AreBytes`, `IsEndOfBytes`), and its description's columns have names of fields. With a run's moment of at
-- most 64 bits `JsonLinesReadBack` speaks of such a line
abbrev pub RecordsHavePlainMembers : Type 0
RecordsHavePlainMembers =
    (r : Entry) → FitsIn64Bits r.when → AreBytes r.name → r.command.target < 2 ^ 64 → IsEndOfBytes r.end → HasFieldNames r.described
    → ArePlainMembers (members_after_run r)
