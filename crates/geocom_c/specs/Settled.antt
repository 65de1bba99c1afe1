-- The records of settlements, this project's own: what a record says of a settlement.
use Rattle.geocom_c.specs.Common.{AllByRecursion, value_fault_number, IsParams, AreItems, ReplyFields, IsReply, Answer, Reading, Asked, Table, Raw, answer_fields, procedure_of, IsAskedReading, Pending, ReadsBy, settlement_seen}
use Rattle.std.specs.Prelude.{◌≡◌, ◌≤◌, ◌+◌, ℕ, List, length, take, drop, map}
use Rattle.gc_catalogue.specs.declared.answer.Reading.TheVariants.{Value, Refused, ComFault, Unreadable}
use Rattle.gc_client.specs.declared.settlement.Settlement.{Settlement}
use Rattle.geocom_c.specs.FirstAre.{FirstAre}
use Rattle.geocom_c.specs.declared.header.TheConstants.{ANSWERED, LATE, LOST, NONE, VALUE, REFUSED, COM_FAULT, UNREADABLE}
use Rattle.geocom_c.specs.declared.listed.GeocomItem.{GeocomItem}
use Rattle.geocom_c.specs.declared.listed.ListedLine.{ListedLine}
use Rattle.geocom_c.specs.declared.settled.GeocomSettlement.{GeocomSettlement}
use Rattle.gc_client.specs.Rule

-- the item is in the text where its place says
pub record StandsAt (text : List ℕ) (place : GeocomItem) (item : List ℕ) : Type 0 where
  pub within : place.offset + place.length ≤ length text
  pub stands : take place.length (drop place.offset text) ≡ item

-- if a call of the table was asked, these items are the values of its answer; of another procedure they are texts, of which
-- nothing is said
abbrev pub AreReadAs : Asked → Answer → List (List ℕ) → Type 0
AreReadAs (Table call) answer items = AreItems items (answer_fields answer).values
AreReadAs (Raw raw) answer items = Unit {0}

-- there are `count` items, each of which is in the text where its place says
pub record AreStanding (count : ℕ) (places : List GeocomItem) (text : List ℕ) (items : List (List ℕ)) : Type 0 where
  pub counted : count ≡ length items
  pub stand : FirstAre (StandsAt text) places items

-- `count` items of an answer are listed: they are those of the parameters, are in the text where `places` says, and, if a call of
-- the table was asked, are the values of the answer (`AreReadAs`)
pub record AreListed (asked : Asked) (answer : Answer) (count : ℕ) (places : List GeocomItem) (text params : List ℕ) : Type 0 where
  pub items : List (List ℕ)
  pub split : IsParams params items
  pub read : AreReadAs asked answer items
  pub standing : AreStanding count places text items

-- `kind` is the number of a reading's kind, and `code` its code: 0 for a value, else that of the refusal or of the fault
abbrev pub IsKind : Reading → (kind code : ℕ) → Type 0
IsKind (Value answer) kind code = (kind ≡ VALUE) × (code ≡ 0)
IsKind (Refused rc) kind code = (kind ≡ REFUSED) × (code ≡ rc)
IsKind (ComFault rc_com) kind code = (kind ≡ COM_FAULT) × (code ≡ rc_com)
IsKind (Unreadable fault) kind code = (kind ≡ UNREADABLE) × (code ≡ value_fault_number fault)

-- the items of the record, if it has this reading of what was asked: for a value they are those of the parameters, else there are
-- none
abbrev pub HasItems : Asked → GeocomSettlement → (text params : List ℕ) → Reading → Type 0
HasItems asked r text params (Value answer) = AreListed asked answer r.items r.places text params
HasItems asked r text params other = r.items ≡ 0

-- the record has the kind and the code of this reading of what was asked (`IsKind`), and its items (`HasItems`)
abbrev pub HasReading : Asked → GeocomSettlement → (text params : List ℕ) → Reading → Type 0
HasReading asked r text params reading = IsKind reading r.reading r.code × HasItems asked r text params reading

-- a record of an answer: its line is at the front of the text, and the record has what the line says as a reply to what was
-- asked
pub record RecordsAnswer (r : GeocomSettlement) (text : List ℕ) (asked : Asked) (line : List ℕ) : Type 0 where
  pub answered : r.outcome ≡ ANSWERED
  pub length : r.line_length ≡ length line
  pub front : take r.line_length text ≡ line
  pub reply : ReplyFields
  pub is_reply : IsReply line reply
  pub reading : Reading
  pub is_reading : IsAskedReading asked reply reading
  pub has_reading : HasReading asked r text reply.params reading

-- a record without an answer, of a request with this outcome
pub record RecordsNoAnswer (r : GeocomSettlement) (outcome : ℕ) : Type 0 where
  pub unanswered : r.outcome ≡ outcome
  pub length : r.line_length ≡ 0
  pub reading : r.reading ≡ NONE
  pub code : r.code ≡ 0
  pub items : r.items ≡ 0

-- a record says that its request had this outcome
abbrev pub HasOutcome : GeocomSettlement → (text : List ℕ) → Asked → Rule.Outcome → Type 0
HasOutcome r text asked (Rule.Answered line) = RecordsAnswer r text asked line
HasOutcome r text asked Rule.Late = RecordsNoAnswer r LATE
HasOutcome r text asked Rule.Lost = RecordsNoAnswer r LOST

-- a record says whom a request was for, its procedure, and how it ended; of an answer's line and its items, it says where they
-- are in the text
pub record IsRecord (text : List ℕ) (r : GeocomSettlement) (s : Rule.Settlement Asked) : Type 0 where
  pub target : r.target ≡ s.target
  pub procedure : r.procedure ≡ procedure_of s.call
  pub outcome : HasOutcome r text s.call s.outcome

-- no part of a promise: the items of these parameters, if they are at most 16 items, are in the text, as many as `count` says,
-- and where `places` says
abbrev pub ListsItems : (text : List ℕ) → (count : ℕ) → (places : List GeocomItem) → (params : List ℕ) → Type 0
ListsItems text count places params = (items : List (List ℕ)) → IsParams params items → length items ≤ 16 → AreStanding count places text items

-- no part of a promise: what was listed is that of this line: the text begins with the line, and if the line is a reply whose
-- parameters are at most 16 items, these are in the text, as many as are counted, and where the places say
pub record IsListingOf (told : ListedLine) (line : List ℕ) : Type 0 where
  pub front : take (length line) told.text.items ≡ line
  pub listed : (reply : ReplyFields) → IsReply line reply → ListsItems told.text.items told.items told.places reply.params

-- no part of a promise: an outcome that is an answer has this line
abbrev pub AnswerHasLine : List ℕ → Rule.Outcome → Type 0
AnswerHasLine line (Rule.Answered answer) = answer ≡ line
AnswerHasLine line other = Unit {0}

-- no part of a promise: each of these settlements that is an answer has this line
abbrev pub AnswersHaveLine : List ℕ → List (Rule.Settlement Asked) → Type 0
AnswersHaveLine line ss = AllByRecursion (λ (s : Rule.Settlement Asked). AnswerHasLine line s.outcome) ss

-- no part of a promise: what was listed is that of some line, which the settlement has if it is an answer
abbrev pub ListsAnswer : ListedLine → Settlement Asked → Type 0
ListsAnswer told settlement = (line : List ℕ) × IsListingOf told line × AnswerHasLine line (settlement_seen settlement).outcome

-- no part of a promise: what was listed is that of some line, which each of these settlements has that is an answer
abbrev pub ListsAnswers : ListedLine → List (Settlement Asked) → Type 0
ListsAnswers told settled = (line : List ℕ) × IsListingOf told line × AnswersHaveLine line (map settlement_seen settled)

-- no part of a promise: these settlements are those of some requests that are lost
abbrev pub AreLost : List (Settlement Asked) → Type 0
AreLost settled = (ps : List (Pending Asked)) × (map settlement_seen settled ≡ map Rule.lost ps)

-- no part of a promise: the first records are those of these settlements, in order, with this text
abbrev pub AreRecords : (text : List ℕ) → (records : List GeocomSettlement) → List (Settlement Asked) → Type 0
AreRecords text records settled = FirstAre (IsRecord text) records (map settlement_seen settled)

-- no part of a promise: the record is that of an answer (`RecordsAnswer`) if the line has this reading as a reply to what was asked
abbrev pub RecordsReading : GeocomSettlement → (text : List ℕ) → Asked → (line : List ℕ) → Reading → Type 0
RecordsReading r text asked line reading = ReadsBy IsAskedReading asked line reading → RecordsAnswer r text asked line
