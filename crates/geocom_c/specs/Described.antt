-- What a reply says by a description, in plain fields, this project's own.
use Rattle.geocom_c.specs.Common.{line_fault_number, FirstBadOfReply, IsReply, ReplyFields, LineFault, IsParams, Value, Answer, Reading, IsReadingBy, DescriptionSeen, IsDescription, AreOfKinds, HaveValues, IsKindsFault, KindsSeen, kinds_of_fields}
use Rattle.std.specs.Prelude.{◌≡◌, ◌<◌, ◌≤◌, ◌⊎◌, ℕ, List, length, take}
use Rattle.gc_lines.specs.declared.fault.LineFault.TheVariants.{TooLong}
use Rattle.gc_catalogue.specs.declared.answer.Answer.TheVariants.{Nothing}
use Rattle.geocom_c.specs.Describing.{DescribesNothing}
use Rattle.geocom_c.specs.Rooms.{KeepsLength}
use Rattle.geocom_c.specs.Settled.{AreStanding, IsKind}
use Rattle.geocom_c.specs.declared.described.GeocomAnswer.{GeocomAnswer}
use Rattle.geocom_c.specs.declared.header.TheConstants.{NO_ROOM, TEXT_ROOM}
use Rattle.gc_catalogue.specs.declared.answer.Reading.TheVariants as reading

-- the kinds of the values of a description's answer, and whether further ones may follow
abbrev pub answer_kinds : DescriptionSeen → KindsSeen
answer_kinds d = record { kinds = kinds_of_fields d.values; more = d.more }

-- the parameters have values of the kinds. As of a raw request, the answer is `Nothing`, whatever they are
abbrev pub IsDescribedAnswer : KindsSeen → (params : List ℕ) → Answer → Type 0
IsDescribedAnswer kinds params answer = ((vs : List Value) × AreOfKinds kinds params vs) × (answer ≡ Nothing)

-- the reply has this reading for a described procedure (`IsReadingBy`, as for one of the table): its parameters have values of the kinds,
-- or a fault
abbrev pub IsDescribedReading : KindsSeen → ReplyFields → Reading → Type 0
IsDescribedReading kinds r reading = IsReadingBy (IsDescribedAnswer kinds r.params) (IsKindsFault kinds r.params) r reading

-- the items of these parameters have values of the description's kinds, are in the text where the places say, and the first ones have its
-- columns
pub record HasValues (d : DescriptionSeen) (told : GeocomAnswer) (text params : List ℕ) : Type 0 where
  pub items : List (List ℕ)
  pub values : List Value
  pub split : IsParams params items
  pub have : HaveValues (answer_kinds d) items values
  pub standing : AreStanding told.items told.places text items
  pub columns : told.columns ≡ length d.values

-- what is returned of items with this reading: those of a value, else none
abbrev pub HasItemsOf : DescriptionSeen → GeocomAnswer → (text params : List ℕ) → Reading → Type 0
HasItemsOf d told text params (reading.Value answer) = HasValues d told text params
HasItemsOf d told text params other = (told.items ≡ 0) × (told.columns ≡ 0)

-- what was returned is what the reply says by this description; its items are in the text
pub record AnswersBy (d : DescriptionSeen) (text : List ℕ) (reply : ReplyFields) (told : GeocomAnswer) : Type 0 where
  pub fault : told.fault ≡ 0
  pub reading : Reading
  pub is_reading : IsDescribedReading (answer_kinds d) reply reading
  pub kind : IsKind reading told.reading told.code
  pub items : HasItemsOf d told text reply.params reading

-- what is returned with this fault if nothing was read; of the places nothing is said
pub record IsNoAnswer (told : GeocomAnswer) (number : ℕ) : Type 0 where
  pub fault : told.fault ≡ number
  pub code : told.code ≡ 0
  pub reading : told.reading ≡ 0
  pub items : told.items ≡ 0
  pub columns : told.columns ≡ 0

-- the room before and after the reading of a reply, and what it returned
pub record AnswerEffect : Type 0 where
  pub before : List ℕ
  pub after : List ℕ
  pub told : GeocomAnswer

-- the reading that found the room `before`, left `after`, and returned `told`
abbrev pub answer_effect : (before after : List ℕ) → (told : GeocomAnswer) → AnswerEffect
answer_effect before after told = record { before = before; after = after; told = told }

-- why the bytes are no reply's line: there are more than 512, or else a field hasn't its form
abbrev pub IsNoReply : (line : List ℕ) → LineFault → Type 0
IsNoReply line fault = ((512 < length line) × (fault ≡ TooLong)) ⊎ ((length line ≤ 512) × FirstBadOfReply line fault)

-- the reading returned this fault, and wrote nothing
abbrev pub ReadsNothing : AnswerEffect → (fault : ℕ) → Type 0
ReadsNothing x fault = IsNoAnswer x.told fault × (x.after ≡ x.before)

-- the reading of a line by this description, with room for its text: the line is a reply, is at the front of the room, and was read; or it
-- is none, and nothing was written
pub data ReadsLine (d : DescriptionSeen) (line : List ℕ) (x : AnswerEffect) : Type 0 where
  reads : (reply : ReplyFields) → length line ≤ 512 → IsReply line reply → AnswersBy d x.after reply x.told → take (length line) x.after ≡ line
      → KeepsLength x.before x.after → ReadsLine d line x
  no_reply : (fault : LineFault) → IsNoReply line fault → ReadsNothing x (line_fault_number fault) → ReadsLine d line x

-- the reading of a line by this text: by what it describes (`ReadsLine`); or there is too little room, or it describes nothing, and nothing
-- was written
pub data ReadsReply (text line : List ℕ) (x : AnswerEffect) : Type 0 where
  described : (d : DescriptionSeen) → TEXT_ROOM ≤ length x.before → IsDescription text d → ReadsLine d line x → ReadsReply text line x
  no_room : length x.before < TEXT_ROOM → ReadsNothing x NO_ROOM → ReadsReply text line x
  undescribed : (fault : ℕ) → TEXT_ROOM ≤ length x.before → DescribesNothing text fault → ReadsNothing x fault → ReadsReply text line x
