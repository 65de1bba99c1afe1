-- What is asked of an instrument: a call of the table, or a procedure that isn't in it. Their lines have the manual's form.
use Rattle.std.specs.Prelude.{◌≡◌, ℕ, Bool, true, false, List, Option}
use Rattle.gc_lines.specs.Prelude.{ReplyFields, RequestFields, request_text}
use Rattle.gc_catalogue.specs.declared.answer.Reading.{Reading}
use Rattle.gc_catalogue.specs.declared.asked.Asked.{Asked}
use Rattle.gc_catalogue.specs.declared.asked.Asked.TheVariants.{Table, Raw}
use Rattle.gc_catalogue.specs.declared.raw.RawCall.{RawCall}
use Rattle.gc_catalogue.specs.Calls.{call_fields, IsCall, IsFitting}
use Rattle.gc_catalogue.specs.Raws.{IsRawCall, IsRawReading}
use Rattle.gc_catalogue.specs.RawTexts.{raw_bytes}
use Rattle.gc_catalogue.specs.Readings.{IsReading}
use Rattle.gc_catalogue.specs.Texts.{request_of}

-- the parameters of a request for a procedure that isn't in the table, as they are in its line
abbrev pub raw_params : RawCall → List ℕ
raw_params raw = raw_bytes raw.params

-- the fields of the request for a procedure that isn't in the table, with an id or without one
abbrev pub raw_request : Option ℕ → RawCall → RequestFields
raw_request id raw = record { rpc = raw.rpc; id = id; params = raw_params raw }

-- the line of the request for a procedure that isn't in the table, with an id or without one
abbrev pub raw_line : Option ℕ → RawCall → List ℕ
raw_line id raw = request_text (raw_request id raw)

-- the number of the procedure that is asked for
abbrev pub procedure_of : Asked → ℕ
procedure_of (Table call) = (call_fields call).number
procedure_of (Raw raw) = raw.rpc

-- the fields of the request for what is asked, with an id or without one
abbrev pub asked_request : Option ℕ → Asked → RequestFields
asked_request id (Table call) = request_of id call
asked_request id (Raw raw) = raw_request id raw

-- the line of the request for what is asked, with an id or without one
abbrev pub asked_line : Option ℕ → Asked → List ℕ
asked_line id asked = request_text (asked_request id asked)

-- a request with this number and these parameters asks for `asked`
abbrev pub IsAsked : ℕ → List ℕ → Asked → Type 0
IsAsked rpc params (Table call) = IsCall rpc params call
IsAsked rpc params (Raw raw) = (raw.rpc ≡ rpc) × (raw_params raw ≡ params)

-- the reply has this reading for what was asked: `IsReading` for a call, `IsRawReading` for a procedure that isn't in the table
abbrev pub IsAskedReading : Asked → ReplyFields → Reading → Type 0
IsAskedReading (Table call) reply reading = IsReading call reply reading
IsAskedReading (Raw raw) reply reading = IsRawReading reply reading

-- what is asked is allowed: a call's numbers are in the ranges of their types, and a procedure that isn't in the table may be
-- asked for with its parameters (`IsRawCall`)
abbrev pub IsAskedFitting : Asked → Type 0
IsAskedFitting (Table call) = IsFitting call
IsAskedFitting (Raw raw) = IsRawCall raw.rpc (raw_params raw)

-- whether what is asked is a call of the table
abbrev pub is_of_table : Asked → Bool
is_of_table (Table call) = true
is_of_table (Raw raw) = false
