-- Any sequence of the nine calls of a session that C has, this project's own: each with what it found, left and returned, and what it is to
-- a session.
use Rattle.geocom_c.specs.Common.{AllByRecursion, position, is_line_feed, frame_of, with_end, Frame, Line, asked_line, procedure_of, Asked, Wanted, Settlement, WINDOW, Want, Call, Steps, Asks, Comes, Hears, Opens, Closes, Restarts, after, after_all, settled_all, taken_all, Session, act_for, at_step, closed, line_of, next_of, opened, opening, takes}
use Rattle.std.specs.Prelude.{◌≡◌, ◌≢◌, ◌⊎◌, ◌≤◌, ℕ, List, [], ◌∷◌, ◌++◌, length, take, map, if◌then◌else◌, nat_eq, Option, Some, None}
use Rattle.geocom_c.specs.Asking.{IsAsk}
use Rattle.geocom_c.specs.Feeding.{HasRoomToSettle}
use Rattle.geocom_c.specs.Hearing.{IsFeed}
use Rattle.geocom_c.specs.Sending.{RequestRule, raw_rule, table_rule}
use Rattle.geocom_c.specs.SessionState.{StandsForSession}
use Rattle.geocom_c.specs.Sessions.{IsInit, IsRestart, IsStatus, IsTold}
use Rattle.geocom_c.specs.Settled.{IsRecord}
use Rattle.geocom_c.specs.Stepping.{HasRoomToStep, IsStep, bytes_of, rest_stepped, want_number}
use Rattle.geocom_c.specs.declared.answers.GeocomStatus.{GeocomStatus}
use Rattle.geocom_c.specs.declared.header.TheConstants.{LINE_ROOM}
use Rattle.geocom_c.specs.declared.session_state.GeocomSession.{GeocomSession}
use Rattle.geocom_c.specs.declared.settled.GeocomSettlement.{GeocomSettlement}
use Rattle.geocom_c.specs.Rooms.{Effect, SettlingEffect}
use Rattle.geocom_c.specs.declared.answers.GeocomStep.{GeocomStep}
use Rattle.geocom_c.specs.declared.answers.GeocomHeard.{GeocomHeard}

-- a call that was made, each the `geocom_session_` function of its name: its arguments, the state and the rooms before and after it, and
-- what it returned
pub data SessionCall : Type 0 where
  Init : (width timeout quiet : ℕ) (old new : GeocomSession) (fault : ℕ) → SessionCall
  Opened : (now : ℕ) (old new : GeocomSession) (fault : ℕ) → SessionCall
  Closed : (now : ℕ) (old new : GeocomSession) (fault : ℕ) → SessionCall
  Next : (want now : ℕ) (x : SettlingEffect GeocomStep) → SessionCall
  Ask : (target timeout procedure : ℕ) (params : List ℕ) (x : Effect GeocomSession ℕ) → SessionCall
  AskRaw : (target timeout procedure : ℕ) (params : List ℕ) (x : Effect GeocomSession ℕ) → SessionCall
  Feed : (now : ℕ) (bytes : List ℕ) (x : SettlingEffect GeocomHeard) → SessionCall
  Restart : (x : Effect GeocomSession GeocomSettlement) → SessionCall
  Status : (state : GeocomSession) (told : GeocomStatus) → SessionCall

-- the call did what its function's contract says
abbrev pub IsMade : SessionCall → Type 0
IsMade (Init width timeout quiet old new fault) = IsInit width timeout quiet old new fault
IsMade (Opened now old new fault) = IsTold (opened now) old new fault
IsMade (Closed now old new fault) = IsTold (closed now) old new fault
IsMade (Next want now x) = IsStep want now x
IsMade (Ask target timeout procedure params x) = IsAsk (table_rule procedure params) target timeout x
IsMade (AskRaw target timeout procedure params x) = IsAsk (raw_rule procedure params) target timeout x
IsMade (Feed now bytes x) = IsFeed now bytes x
IsMade (Restart x) = IsRestart x
IsMade (Status state told) = IsStatus state told

-- the bytes of the state before a call, and after it
abbrev pub state_before : SessionCall → GeocomSession
state_before (Init width timeout quiet old new fault) = old
state_before (Opened now old new fault) = old
state_before (Closed now old new fault) = old
state_before (Next want now x) = x.old
state_before (Ask target timeout procedure params x) = x.old
state_before (AskRaw target timeout procedure params x) = x.old
state_before (Feed now bytes x) = x.old
state_before (Restart x) = x.old
state_before (Status state told) = state

abbrev pub state_after : SessionCall → GeocomSession
state_after (Init width timeout quiet old new fault) = new
state_after (Opened now old new fault) = new
state_after (Closed now old new fault) = new
state_after (Next want now x) = x.new
state_after (Ask target timeout procedure params x) = x.new
state_after (AskRaw target timeout procedure params x) = x.new
state_after (Feed now bytes x) = x.new
state_after (Restart x) = x.new
state_after (Status state told) = state

-- these calls were made one after the other on a state with these bytes (`old`), which nothing else changed; it has the bytes `new` then
abbrev pub AreMade : (old : GeocomSession) → List SessionCall → (new : GeocomSession) → Type 0
AreMade old [] new = new ≡ old
AreMade old (call ∷ calls) new = (state_before call ≡ old) × IsMade call × AreMade (state_after call) calls new

-- a call doesn't make another session: it is no `geocom_session_init` that returned 0
abbrev pub KeepsSession : SessionCall → Type 0
KeepsSession (Init width timeout quiet old new fault) = fault ≢ 0
KeepsSession other = Unit {0}

-- What calls are to a session.

-- what a call is to a session: the session's own calls, in order; and the bytes since the last line feed after them
pub record Part : Type 0 where
  pub calls : List Call
  pub rest : List ℕ

-- a call is what `to` makes of an x of which `Is` holds. If it holds of none the call is refused, and is nothing to a session
abbrev pub IsPartOf : {X : Type 0} → (rest : List ℕ) → (Is : X → Type 0) → (to : X → Part) → Part → Type 0
IsPartOf {X = X} rest Is to part = ((x : X) × Is x × (part ≡ to x)) ⊎ (((x : X) → Is x → ⊥) × (part ≡ record { calls = []; rest = rest }))

-- a request is asked if there is room for its line, and `rule` asks for something
abbrev pub IsAskPart : {X E : Type 0} → (rest : List ℕ) → RequestRule X E → (target timeout : ℕ) → (room : List ℕ) → Part → Type 0
IsAskPart {X = X} rest rule target timeout room part =
    IsPartOf {X = X} rest (λ x. (LINE_ROOM ≤ length room) × rule.is x) (λ x. record { calls = Asks target (rule.to x) timeout ∷ []; rest = rest }) part

-- bytes come, if there are any
abbrev pub comes_calls : (now : ℕ) → (bytes : List ℕ) → List Call
comes_calls now [] = []
comes_calls now (byte ∷ bytes) = Comes now ∷ []

-- a line is heard, if a frame is one
abbrev pub hears_calls : Frame → List Call
hears_calls (Line line) = Hears line.items ∷ []
hears_calls other = []

-- what bytes make of a session, where `rest` came before them since the last line feed, and their first line feed has this place: they
-- come, and the line that it ends is heard. What is behind it isn't used
abbrev pub fed_part : (now : ℕ) → (rest bytes : List ℕ) → (place : Option ℕ) → Part
fed_part now rest bytes None = record { calls = comes_calls now bytes; rest = rest ++ bytes }
fed_part now rest bytes (Some at) = record { calls = comes_calls now bytes ++ hears_calls (frame_of (rest ++ take at bytes)); rest = [] }

-- what a call is to the session `s`, where `rest` are the bytes since the last line feed: that of its arguments, unless it is refused: a
-- step with too little room or another want, a request with too little room or that doesn't read, and a feed or a restart with too little
-- room. No fault that it returned has a part in it. `geocom_session_status`, and an init that is refused, are nothing to a session
abbrev pub IsPart : (s : Session) → (rest : List ℕ) → SessionCall → Part → Type 0
IsPart s rest (Init width timeout quiet old new fault) part = part ≡ record { calls = []; rest = rest }
IsPart s rest (Opened now old new fault) part = part ≡ record { calls = Opens now ∷ []; rest = [] }
IsPart s rest (Closed now old new fault) part = part ≡ record { calls = Closes now ∷ []; rest = [] }
IsPart s rest (Next number now x) part =
    IsPartOf rest (λ (want : Want). HasRoomToStep x.before x.blank × (number ≡ want_number want))
    (λ want. record { calls = Steps want now ∷ []; rest = rest_stepped want now s rest }) part
IsPart s rest (Ask target timeout procedure params x) part = IsAskPart rest (table_rule procedure params) target timeout x.before part
IsPart s rest (AskRaw target timeout procedure params x) part = IsAskPart rest (raw_rule procedure params) target timeout x.before part
IsPart s rest (Feed now bytes x) part =
    IsPartOf rest (λ (any : Unit {0}). HasRoomToSettle x.before x.blank) (λ any. fed_part now rest bytes (position is_line_feed bytes)) part
IsPart s rest (Restart x) part = IsPartOf rest (λ (any : Unit {0}). WINDOW ≤ length x.before) (λ any. record { calls = Restarts ∷ []; rest = [] }) part
IsPart s rest (Status state told) part = part ≡ record { calls = []; rest = rest }

-- what these calls are to the session `s`, where `rest` are the bytes since the last line feed: the calls `all` on it, in order, and the
-- bytes `last` since the last line feed after them
abbrev pub ArePart : (s : Session) → (rest : List ℕ) → List SessionCall → (all : List Call) → (last : List ℕ) → Type 0
ArePart s rest [] all last = (all ≡ []) × (last ≡ rest)
ArePart s rest (call ∷ calls) all last =
    (part : Part) × (later : List Call) × IsPart s rest call part × (all ≡ part.calls ++ later) × ArePart (after_all part.calls s) part.rest calls later last

-- What calls hand out.

-- a record that was handed out, and the text in which its answer's line is
pub record Handed : Type 0 where
  pub text : List ℕ
  pub settlement : GeocomSettlement

-- the first `count` of these records, with this text
abbrev pub first_handed : (text : List ℕ) → (count : ℕ) → List GeocomSettlement → List Handed
first_handed text count records = map (λ r. record { text = text; settlement = r }) (take count records)

-- the records that a call handed out: as many as it returned as their count
abbrev pub handed_by : SessionCall → List Handed
handed_by (Next want now x) = first_handed [] x.told.count x.records
handed_by (Feed now bytes x) = first_handed x.text x.told.count x.records
handed_by (Restart x) = first_handed [] x.told.count x.after
handed_by other = []

-- the records that these calls handed out, in order
abbrev pub handed_all : List SessionCall → List Handed
handed_all [] = []
handed_all (call ∷ calls) = handed_by call ++ handed_all calls

-- a record that was handed out says how this request ended
abbrev pub IsHanded : Handed → Settlement Asked → Type 0
IsHanded h s = IsRecord h.text h.settlement s

-- two lists have the same length, and `Is x y` holds for each item x of the one and the item y at the same place of the other
abbrev pub AreSideBySide : {A B : Type 0} → (A → B → Type 0) → List A → List B → Type 0
AreSideBySide Is [] [] = Unit {0}
AreSideBySide Is [] (y ∷ ys) = ⊥
AreSideBySide Is (x ∷ xs) [] = ⊥
AreSideBySide Is (x ∷ xs) (y ∷ ys) = Is x y × AreSideBySide Is xs ys

-- the bytes that a call has its caller write: as many of the room for the line as it returned as their count
abbrev pub bytes_by : SessionCall → List ℕ
bytes_by (Next want now x) = take x.told.bytes x.text
bytes_by (Ask target timeout procedure params x) = take x.told.count x.after
bytes_by (AskRaw target timeout procedure params x) = take x.told.count x.after
bytes_by other = []

-- all bytes that these calls have their caller write, in order
abbrev pub bytes_all : List SessionCall → List ℕ
bytes_all [] = []
bytes_all (call ∷ calls) = bytes_by call ++ bytes_all calls

-- what a session has its caller write at a call on it: of a step what is next, and of a request that it takes the line, with its CR LF
abbrev pub written_by : Call → Session → List ℕ
written_by (Steps want now) s = let t = at_step want now s in bytes_of (act_for (next_of want t) 0) (line_of (next_of want t) t)
written_by (Asks target call wait) s = if takes target s then with_end (asked_line (Some s.client.next) call) else []
written_by other s = []

-- what a session has its caller write at these calls, in order
abbrev pub written_all : List Call → Session → List ℕ
written_all [] s = []
written_all (call ∷ calls) s = written_by call s ++ written_all calls (after call s)

-- a request as its caller asked for it: its target and its procedure
pub record Request : Type 0 where
  pub target : ℕ
  pub procedure : ℕ

-- the request of an ask, if that returned the fault 0
abbrev pub request_if : (fault target procedure : ℕ) → List Request
request_if fault target procedure = if nat_eq fault 0 then record { target = target; procedure = procedure } ∷ [] else []

-- the request that a call made, if it is one, and returned the fault 0
abbrev pub request_by : SessionCall → List Request
request_by (Ask target timeout procedure params x) = request_if x.told.fault target procedure
request_by (AskRaw target timeout procedure params x) = request_if x.told.fault target procedure
request_by other = []

-- the requests that these calls made, in order
abbrev pub requests_all : List SessionCall → List Request
requests_all [] = []
requests_all (call ∷ calls) = request_by call ++ requests_all calls

-- what a session took from its caller, as its caller asked for it
abbrev pub request_of : Wanted Asked → Request
request_of x = record { target = x.target; procedure = procedure_of x.call }

-- what holds of these calls, which are the calls `all` on the session `s`: the state stands for that session after them, with the bytes
-- `last` since the last line feed; the records that they hand out are those of what it settles, in order, and no others; what they have
-- their caller write is what it has written; and the requests for which they returned 0 are those that it takes
pub record AreOfSession (s : Session) (all : List Call) (last : List ℕ) (calls : List SessionCall) (state : GeocomSession) : Type 0 where
  pub stands : StandsForSession state (after_all all s) last
  pub settled : AreSideBySide IsHanded (handed_all calls) (settled_all all s)
  pub written : bytes_all calls ≡ written_all all s
  pub taken : requests_all calls ≡ map request_of (taken_all all s)

-- calls on a state that stands for the session `s`, with the bytes `rest` since the last line feed, are calls on that session (`are`); and
-- whichever they are, what the calls did is what these do (`AreOfSession`)
pub record IsOfItsCalls (s : Session) (rest : List ℕ) (calls : List SessionCall) (state : GeocomSession) : Type 0 where
  pub are : (all : List Call) × (last : List ℕ) × ArePart s rest calls all last
  pub did : (all : List Call) (last : List ℕ) → ArePart s rest calls all last → AreOfSession s all last calls state

-- it is so of any calls from a state of some session on, as long as none makes another one (`on`); and so of any calls from any bytes on, since
-- the last one that made a session (`since`)
pub record SessionCallsAreCalls : Type 0 where
  pub on :
      (s : Session) (rest : List ℕ) (old new : GeocomSession) (calls : List SessionCall) → StandsForSession old s rest → AllByRecursion KeepsSession calls → AreMade old calls new
      → IsOfItsCalls s rest calls new
  pub since :
      (old new made_of made : GeocomSession) (earlier later : List SessionCall) (width timeout quiet fault : ℕ) → fault ≡ 0 → AllByRecursion KeepsSession later
      → AreMade old (earlier ++ Init width timeout quiet made_of made fault ∷ later) new
      → IsOfItsCalls (opening (record { width = width; timeout = timeout; quiet = quiet })) [] later new
