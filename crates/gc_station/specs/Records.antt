-- Records: what a station writes of each command that ended, this project's own. A book is what takes their texts, in order;
-- `text` gives the text of a record.
use Rattle.gc_station.specs.Common.{flat_map, Appends, TakesPart, Turn, Wish, End, ending_seen}
use Rattle.std.specs.Prelude.{◌≡◌, ℕ, ◌<◌, List, ◌∷◌, ◌++◌, length, take, Option, Result, Ok, Err}
use Rattle.gc_texts.specs.declared.stamp.Stamp.{Stamp}
use Rattle.gc_texts.specs.declared.ending.Ending.{Ending}
use Rattle.gc_station.specs.Scopes.{ForEachReadings, Reads}

-- how a command ended
pub record Record : Type 0 where
  -- the moment read last before its request was sent, by the clock of time stamps; `None` if it wasn't sent
  pub sent : Option ℕ
  -- the id of its request, 0 to 7; 0 if it wasn't sent
  pub id : ℕ
  -- the moment of its end, by the clock of time stamps; of a missed command the moment at which its cycle was due
  pub utc : ℕ
  -- its cycle, counted from 1; 0 for a command of the setup
  pub cycle : ℕ
  -- its place in the station's list, counted from 0
  pub place : ℕ
  -- which command of the text it is, and in which attempt
  pub turn : Turn
  -- what it asked, and of which target
  pub command : Wish
  -- its ending
  pub end : End

-- the record of a command with this stamp and this ending, as contracts see it
abbrev pub record_seen : Stamp → Wish → Ending → Record
record_seen stamp command ending = record {
  sent = stamp.sent;
  id = stamp.id;
  utc = stamp.utc;
  cycle = stamp.cycle;
  place = stamp.place;
  turn = stamp.turn;
  command = command;
  end = ending_seen ending;
}

-- from `old` to `new` items, such as records, were added at the end of a list, if any, and none was changed or removed
abbrev pub Grew : {A : Type 0} → (old new : List A) → Type 0
Grew {A = A} old new = (more : List A) × (new ≡ old ++ more)

-- a write of `text` with this result, after which a book that had taken `old` has taken `new`: the whole text, or if the write
-- failed (`Err`) a first part that isn't all of it
abbrev pub Writes : {X E : Type 0} → (old new : Option (List ℕ)) → (text : List ℕ) → Result X E → Type 0
Writes old new text (Ok _) = Appends old new text
Writes old new text (Err _) = TakesPart old new text

-- the texts of `records`, one after the other, each as `text` writes it
abbrev pub texts_of : (Record → List ℕ) → List Record → List ℕ
texts_of text records = flat_map text records

-- a book that had taken `old` and was to take the records `all`, in order, failed within the record `next`, which comes after
-- those of `before`: it has taken all records before `next` whole, and of `next` only a first part. `new` is what it has taken
-- then
pub record WritesPart (text : Record → List ℕ) (before all : List Record) (old new : Option (List ℕ)) : Type 0 where
  pub earlier : List Record
  pub next : Record
  pub later : List Record
  pub order : all ≡ before ++ (earlier ++ next ∷ later)
  pub part : ℕ
  pub not_all : part < length (text next)
  pub took : Appends old new (texts_of text (before ++ earlier) ++ take part (text next))

-- a book that had taken `old` has taken `new`: the texts of the records `all`, whole; or if it failed (`Err`), those of
-- `before`, and a part of the others
abbrev pub WritesBy : {X E : Type 0} → (Record → List ℕ) → (before all : List Record) → (old new : Option (List ℕ)) → Result X E → Type 0
WritesBy text before all old new (Ok _) = Appends old new (texts_of text all)
WritesBy text before all old new (Err _) = WritesPart text before all old new

-- a book that had taken `old`, which ends with the texts of some records `before`, has taken `new`: the texts of the records
-- `news` besides, whole, or if it failed (`Err`) a part of them
abbrev pub WritesMore : {X E : Type 0} → (Record → List ℕ) → (old new : Option (List ℕ)) → (news : List Record) → Result X E → Type 0
WritesMore text old new news result =
    (start : Option (List ℕ)) (before : List Record)
    → Appends start old (texts_of text before) → WritesBy text before (before ++ news) start new result

-- as `WritesMore`, of the records `news reads`, for each function `reads` that gives each line's reading for a call
abbrev pub WritesNews : {X E : Type 0} → (Record → List ℕ) → (old new : Option (List ℕ)) → (news : Reads → List Record)
    → Result X E → Type 0
WritesNews text old new news result = ForEachReadings (λ reads. WritesMore text old new (news reads) result)
