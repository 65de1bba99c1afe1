-- What is claimed of the definitions of what is asked, apart from any call of a function: this project's own.
use Rattle.std.specs.Prelude.{◌≡◌, ◌≤◌, ℕ, List, Option, length}
use Rattle.gc_lines.specs.Prelude.{IsIdInRange, IsPlain}
use Rattle.gc_catalogue.specs.declared.asked.Asked.{Asked}
use Rattle.gc_catalogue.specs.declared.raw.RawCall.{RawCall}
use Rattle.gc_catalogue.specs.Asked.{asked_line, asked_request, raw_line, IsAsked, IsAskedFitting, IsAskedReading}
use Rattle.gc_catalogue.specs.Bytes.{AreBytes}
use Rattle.gc_catalogue.specs.Calls.{IsNoProcedure}
use Rattle.gc_catalogue.specs.Laws.{EachReadsBack, HasOneReading, OneForALine, ReadsBack, ReadsEachReply}

-- the request line of a procedure that isn't in the table has at most 512 bytes, none of which is CR or LF, and no procedure of
-- the table has its number
pub record FitsALine (id : Option ℕ) (raw : RawCall) : Type 0 where
  pub plain : IsPlain (raw_line id raw)
  pub short : length (raw_line id raw) ≤ 512
  pub number : IsNoProcedure raw.rpc

-- `FitsALine` for each procedure that isn't in the table, with each id below 8 or without one
abbrev pub RawLinesFit : Type 0
RawLinesFit = (id : Option ℕ) (raw : RawCall) → IsIdInRange id → FitsALine id raw

-- the request line for whatever is asked, with an id below 8 or without one, is of bytes
abbrev pub RequestLinesAreOfBytes : Type 0
RequestLinesAreOfBytes = (id : Option ℕ) (asked : Asked) → IsIdInRange id → AreBytes (asked_line id asked)

-- the number and the parameters of a request ask for at most one thing
abbrev pub OneAsked : Type 0
OneAsked = (rpc : ℕ) (params : List ℕ) (a b : Asked) → IsAsked rpc params a → IsAsked rpc params b → a ≡ b

-- `OneForALine`, for what is allowed (`IsAskedFitting`)
abbrev pub OneAskedForALine : Type 0
OneAskedForALine = OneForALine asked_line IsAskedFitting

-- `ReadsBack`, for what is asked
abbrev pub ReadsBackAsked : Option ℕ → Asked → Type 0
ReadsBackAsked id asked = ReadsBack asked_request IsAsked id asked

-- `EachReadsBack`, for what is allowed (`IsAskedFitting`)
abbrev pub AskedReadBack : Type 0
AskedReadBack = EachReadsBack asked_request IsAsked IsAskedFitting

-- a reply has at most one reading for what was asked
abbrev pub OneAskedReading : Type 0
OneAskedReading = HasOneReading IsAskedReading

-- each reply has a reading for whatever is asked
abbrev pub EachReplyIsReadForAsked : Type 0
EachReplyIsReadForAsked = ReadsEachReply IsAskedReading
