-- What a send writes and returns, this project's own.
use Rattle.geocom_c.specs.Common.{value_fault_number, line_fault_number, Asked, Table, Raw, RawCall, IsAsked, asked_line, refusal_number, IsCall, IsRefusal, IsRawRefusal, ById, Windowed, Sending, sends}
use Rattle.std.specs.Prelude.{◌≡◌, ◌≢◌, ◌<◌, ◌≤◌, ℕ, List, [], length, Option, Some, None, Result, Ok, Err}
use Rattle.gc_catalogue.specs.declared.call.Call.{Call}
use Rattle.gc_catalogue.specs.declared.fault.CallFault.{CallFault}
use Rattle.gc_catalogue.specs.declared.raw.RawFault.{RawFault}
use Rattle.gc_catalogue.specs.declared.raw.RawFault.TheVariants.{InTable, NotPlain, TooLong, OpenQuote, TooMany}
use Rattle.geocom_c.specs.Beginning.{IsGiven}
use Rattle.geocom_c.specs.Rest.{IsRest}
use Rattle.geocom_c.specs.Rooms.{Effect, FaultLeavesAll, ReportsNoClient, ReportsNoRoom, WritesWithin}
use Rattle.geocom_c.specs.State.{IfOfClient, KeepsAnswered, StandsForClient, left_of}
use Rattle.geocom_c.specs.declared.header.TheConstants.{LINE_ROOM, WINDOW_FULL, NO_ROOM, NO_CLIENT, NOT_BEGUN, IN_TABLE, NOT_NOW, OWN_TARGET}
use Rattle.geocom_c.specs.declared.state.GeocomClient.{GeocomClient}
use Rattle.gc_values.specs.declared.fault.ValueFault.TheVariants as value
use Rattle.gc_lines.specs.declared.fault.LineFault.TheVariants as line

-- what a number and parameters ask for, and why they are refused: `to x` is asked for, for each x of which `is` holds; and each e of
-- which `is_not` holds is a reason to refuse, with this number
pub record RequestRule (X E : Type 0) : Type 1 where
  pub to : X → Asked
  pub is : X → Type 0
  pub is_not : E → Type 0
  pub number : E → ℕ

-- the fault number of a raw request that is refused. For a CR or LF among its parameters it is the number of a parameter that
-- doesn't read (`Spelling`); for a request whose line would be too long, it is the number of a line that is too long (`TooLong`)
abbrev pub raw_number : RawFault → ℕ
raw_number InTable = IN_TABLE
raw_number NotPlain = value_fault_number value.Spelling
raw_number TooLong = line_fault_number line.TooLong
raw_number OpenQuote = value_fault_number value.OpenQuote
raw_number TooMany = value_fault_number value.TooMany

-- by this rule a number and parameters ask for a call of the table
abbrev pub table_rule : (procedure : ℕ) → (params : List ℕ) → RequestRule Call CallFault
table_rule procedure params = record { to = Table; is = IsCall procedure params; is_not = IsRefusal procedure params; number = refusal_number }

-- by this rule a number and parameters ask for a raw call
abbrev pub raw_rule : (procedure : ℕ) → (params : List ℕ) → RequestRule RawCall RawFault
raw_rule procedure params = record { to = Raw; is = λ raw. IsAsked procedure params (Raw raw); is_not = IsRawRefusal procedure params; number = raw_number }

-- no part of a promise: by this rule what was read is asked for; if a number was read, it is the reason to refuse
abbrev pub read_rule : (read : Result Asked ℕ) → RequestRule Asked ℕ
read_rule read = record { to = λ asked. asked; is = λ asked. read ≡ Ok asked; is_not = λ fault. read ≡ Err fault; number = λ fault. fault }

-- what a send of `asked` did and returned is what the client's rule says of it (None: the rule refuses it), where `c` is the
-- client before the send and `rest` are the bytes since the last line feed. A send that is refused returns that the window is
-- full, and changes nothing; otherwise the line was written with its CR LF, and the state is the rule's
abbrev pub SendMeets : (c : Windowed Asked) (rest : List ℕ) (asked : Asked) → Option (Sending (ById Asked)) → Effect GeocomClient ℕ → Type 0
SendMeets c rest asked None sent = (sent.told.fault ≡ WINDOW_FULL) × (sent.new ≡ sent.old) × (sent.after ≡ sent.before)
SendMeets c rest asked (Some s) sent =
    (sent.told.fault ≡ 0) × StandsForClient sent.new (record c { ids = s.client }) rest
    × IsGiven (Some (asked_line (Some s.id) asked)) sent.told.count sent.after

-- a client that has synchronized sends what `rule` asks for, to this target and with this deadline, or refuses it where the window is
-- full (`SendMeets`)
abbrev pub SendsEach : {X E : Type 0} → RequestRule X E → (target deadline : ℕ) → Effect GeocomClient ℕ → Type 0
SendsEach {X = X} rule target deadline sent =
    (c : Windowed Asked) (rest : List ℕ) (x : X) → StandsForClient sent.old c rest → left_of sent.old ≡ [] → rule.is x
    → SendMeets c rest (rule.to x) (sends c.width c.ids target (rule.to x) deadline) sent

-- a client that has synchronized refuses with the number that `rule` gives, for each reason that it has to refuse
abbrev pub RefusesEach : {X E : Type 0} → RequestRule X E → GeocomClient → (fault : ℕ) → Type 0
RefusesEach {E = E} rule state fault =
    (c : Windowed Asked) (rest : List ℕ) (e : E) → StandsForClient state c rest → left_of state ≡ [] → rule.is_not e → fault ≡ rule.number e

-- the fault is none of a send's own: not 0, nor that of a full window, of too little room, of a state that is no client's or of a
-- client that hasn't synchronized
abbrev pub IsOfRequest : (fault : ℕ) → Type 0
IsOfRequest fault = (fault ≢ 0) × (fault ≢ WINDOW_FULL) × (fault ≢ NO_ROOM) × (fault ≢ NO_CLIENT) × (fault ≢ NOT_BEGUN)

-- a fault that is none of a send's own (`IsOfRequest`) is the number of a reason that `rule` has to refuse
abbrev pub IsRefusalNumber : {X E : Type 0} → RequestRule X E → (fault : ℕ) → Type 0
IsRefusalNumber {E = E} rule fault = IsOfRequest fault → (e : E) × rule.is_not e × (fault ≡ rule.number e)

-- a client that hasn't synchronized refuses to send
abbrev pub RefusesUnbegun : GeocomClient → (fault : ℕ) → Type 0
RefusesUnbegun state fault = IfOfClient state (λ c rest. left_of state ≢ [] → fault ≡ NOT_BEGUN)

-- the state is that of a client that has synchronized, it was asked for an x of which `Is` holds, and the number of its
-- outstanding requests and its width meet `Fills`
pub record WasAsked {X : Type 0} (Is : X → Type 0) (Fills : (count width : ℕ) → Type 0) (state : GeocomClient) : Type 0 where
  pub client : Windowed Asked
  pub rest : List ℕ
  pub asked : X
  pub stands : StandsForClient state client rest
  pub begun : left_of state ≡ []
  pub is : Is asked
  pub fills : Fills (length client.ids.waiting) client.width

-- no part of a promise: the client `c` sends `asked` to this target and with this deadline, or refuses it where the window is
-- full (`SendMeets`), if the state before has a valid rest of a line and a valid count of answered null procedures
abbrev pub SendsAsked : (c : Windowed Asked) → (asked : Asked) → (target deadline : ℕ) → Effect GeocomClient ℕ → Type 0
SendsAsked c asked target deadline sent =
    (rest : List ℕ) → IsRest sent.old.rest rest → sent.old.answered ≤ 8 → SendMeets c rest asked (sends c.width c.ids target asked deadline) sent

-- the fault that the client hasn't synchronized comes only of a state with ids that aren't answered
abbrev pub ReportsUnbegun : GeocomClient → (fault : ℕ) → Type 0
ReportsUnbegun state fault = fault ≡ NOT_BEGUN → left_of state ≢ []

-- the fault of a full window comes only of a client that has synchronized, for an x of which `Is` holds, where as many requests
-- are outstanding as its width says
abbrev pub ReportsFull : {X : Type 0} → (Is : X → Type 0) → GeocomClient → (fault : ℕ) → Type 0
ReportsFull Is state fault = fault ≡ WINDOW_FULL → WasAsked Is (λ count width. count ≡ width) state

-- a fault of 0 comes only of a client that has synchronized, for an x of which `Is` holds, where fewer requests are outstanding
-- than its width says
abbrev pub ReportsDone : {X : Type 0} → (Is : X → Type 0) → GeocomClient → (fault : ℕ) → Type 0
ReportsDone Is state fault = fault ≡ 0 → WasAsked Is (λ count width. count < width) state

-- what a send did and returned: a client that has synchronized sends what `rule` asks for, and refuses for the reasons that `rule`
-- has; each fault comes only for its reason, and after one nothing has changed
pub record IsSend {X E : Type 0} (rule : RequestRule X E) (target deadline : ℕ) (s : Effect GeocomClient ℕ) : Type 0 where
  -- if there is room for a line
  pub sent : LINE_ROOM ≤ length s.before → SendsEach rule target deadline s
  pub refuses : LINE_ROOM ≤ length s.before → RefusesEach rule s.old s.told.fault
  pub begins : LINE_ROOM ≤ length s.before → RefusesUnbegun s.old s.told.fault
  -- what each fault says
  pub begun : ReportsUnbegun s.old s.told.fault
  pub room : ReportsNoRoom s.before LINE_ROOM s.told.fault
  pub astray : ReportsNoClient s.before LINE_ROOM s.old s.told.fault
  pub full : ReportsFull rule.is s.old s.told.fault
  pub done : ReportsDone rule.is s.old s.told.fault
  pub refusal : IsRefusalNumber rule s.told.fault
  -- what stays
  pub refused : FaultLeavesAll s.told s.old s.new s.before s.after
  pub answered : KeepsAnswered s.old s.new
  pub written : WritesWithin s.told.count s.before s.after

-- no part of a promise: the fault is none of a send's own, nor that of a request that a session doesn't take
abbrev pub IsOfReading : (fault : ℕ) → Type 0
IsOfReading fault = IsOfRequest fault × (fault ≢ NOT_NOW) × (fault ≢ OWN_TARGET)

-- no part of a promise: a number and parameters were read as `rule` says: they ask for exactly what it asks for, and are refused for
-- exactly the reasons that it has, with numbers that are none of a send's own faults
pub record AsksOrRefuses {X E : Type 0} (rule : RequestRule X E) (read : Result Asked ℕ) : Type 0 where
  pub asks : (asked : Asked) → read ≡ Ok asked → (x : X) × rule.is x × (asked ≡ rule.to x)
  pub only : (x : X) → rule.is x → read ≡ Ok (rule.to x)
  pub refuses : (fault : ℕ) → read ≡ Err fault → (e : E) × rule.is_not e × (fault ≡ rule.number e)
  pub refused : (e : E) → rule.is_not e → read ≡ Err (rule.number e)
  pub number_of_request : (fault : ℕ) → read ≡ Err fault → IsOfReading fault
