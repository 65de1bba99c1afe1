-- What a session's step returns and writes, in plain fields: this project's own.
use Rattle.geocom_c.specs.Common.{with_end, WINDOW, Want, Nothing, Answers, Send, Session, IsActFor, at_step, line_of, next_of, settled_by, stepped}
use Rattle.std.specs.Prelude.{◌≡◌, ◌≢◌, ◌↔◌, ◌≤◌, ℕ, List, [], ◌∷◌, length, take, nat_eq, if◌then◌else◌}
use Rattle.gc_session.specs.declared.settings.Act.{Act}
use Rattle.geocom_c.specs.FirstAre.{FirstAre}
use Rattle.geocom_c.specs.Rooms.{SettlingEffect, WritesFirst, WritesWithin}
use Rattle.geocom_c.specs.SessionState.{IfOfSession, IsOfNoSession, IsOfSession, StandsForSession, phase_byte}
use Rattle.geocom_c.specs.Settled.{IsRecord}
use Rattle.geocom_c.specs.declared.answers.GeocomStep.{GeocomStep}
use Rattle.geocom_c.specs.declared.header.TheConstants.{CLOSE, LINE_ROOM, NO_CLIENT, NO_ROOM, NO_WANT, OPEN, READ, SEND, WAIT, WANT_ANSWERS, WANT_NOTHING, WANT_SEND, WRITE}
use Rattle.geocom_c.specs.declared.session_state.GeocomSession.{GeocomSession}
use Rattle.geocom_c.specs.declared.settled.GeocomSettlement.{GeocomSettlement}
use Rattle.gc_session.specs.declared.settings.Act.TheVariants as act

-- the number of a want
abbrev pub want_number : Want → ℕ
want_number Nothing = WANT_NOTHING
want_number Answers = WANT_ANSWERS
want_number Send = WANT_SEND

-- a number is that of a want
pub record IsWant (number : ℕ) : Type 0 where
  pub want : Want
  pub is : number ≡ want_number want

-- the number of an act
abbrev pub act_number : Act → ℕ
act_number act.Open = OPEN
act_number (act.Wait until) = WAIT
act_number act.Clear = WRITE
act_number act.Put = WRITE
act_number act.Ask = SEND
act_number (act.Read until) = READ
act_number act.Close = CLOSE

-- until when an act lasts at most; 0 for one that doesn't wait
abbrev pub until_of : Act → ℕ
until_of (act.Wait until) = until
until_of (act.Read until) = until
until_of other = 0

-- the bytes that a session's caller writes for an act, where `line` is the line that is next: a lone line feed, or the line with its CR LF
abbrev pub bytes_of : Act → (line : List ℕ) → List ℕ
bytes_of act.Clear line = 10 ∷ []
bytes_of act.Put line = with_end line
bytes_of other line = []

-- the bytes since the last line feed after a step of the session s: those before it, unless the step changes the phase. Then half a line
-- is discarded, as a line feed is sent on the connection, or nothing came for the quiet time
abbrev pub rest_stepped : Want → (now : ℕ) → Session → (rest : List ℕ) → List ℕ
rest_stepped want now s rest = if nat_eq (phase_byte (stepped want now s).standing.phase) (phase_byte s.standing.phase) then rest else []

-- there is room for what a step can write
pub record HasRoomToStep (settlements : List GeocomSettlement) (line : List ℕ) : Type 0 where
  pub for_records : WINDOW ≤ length settlements
  pub for_line : LINE_ROOM ≤ length line

-- these bytes are at the front of `room`, and are `count` bytes
abbrev pub StandInFront : (bytes : List ℕ) → (count : ℕ) → (room : List ℕ) → Type 0
StandInFront bytes count room = (count ≡ length bytes) × (take count room ≡ bytes)

-- what a step says and writes of what is next in the session s, if this is wanted: the fault is 0; the act is the session's; the bytes
-- that are to be written are at the front of the room for the line; and a record says of each settlement how the request ended
pub record TellsStep (want : Want) (s : Session) (told : GeocomStep) (records : List GeocomSettlement) (line : List ℕ) : Type 0 where
  pub fault : told.fault ≡ 0
  pub act : Act
  pub is : IsActFor want s act
  pub act_is : told.act ≡ act_number act
  pub until_is : told.until ≡ until_of act
  pub bytes : StandInFront (bytes_of act (line_of (next_of want s) s)) told.bytes line
  pub count : told.count ≡ length (settled_by (next_of want s) s)
  pub recorded : FirstAre (IsRecord []) records (settled_by (next_of want s) s)

-- the session s made a step at the moment `now`, if this is wanted: what is told is that of what was next (`TellsStep`), and the state
-- is that of the session after it
pub record HasStepped (want : Want) (now : ℕ) (s : Session) (rest : List ℕ) (state : GeocomSession) (told : GeocomStep)
    (records : List GeocomSettlement) (line : List ℕ) : Type 0 where
  pub tells : TellsStep want (at_step want now s) told records line
  pub stands : StandsForSession state (stepped want now s) (rest_stepped want now s rest)

-- what is returned with this fault if a step did nothing
abbrev pub unmoved_with : (fault : ℕ) → GeocomStep
unmoved_with fault = record { until = 0; fault = fault; act = 0; bytes = 0; count = 0 }

-- a call for a step, with this number of a want: a session's state makes the step; each fault comes exactly for its reason, too little
-- room before all else, and then a state that is no session's; and after a fault nothing has changed
pub record IsStep (number now : ℕ) (x : SettlingEffect GeocomStep) : Type 0 where
  pub stepped : HasRoomToStep x.before x.blank → (want : Want) → number ≡ want_number want
      → IfOfSession x.old (λ s rest. HasStepped want now s rest x.new x.told x.records x.text)
  pub room : (x.told.fault ≡ NO_ROOM) ↔ (HasRoomToStep x.before x.blank → ⊥)
  pub astray : (x.told.fault ≡ NO_CLIENT) ↔ (HasRoomToStep x.before x.blank × IsOfNoSession x.old)
  pub wants : (x.told.fault ≡ NO_WANT) ↔ (HasRoomToStep x.before x.blank × IsOfSession x.old × (IsWant number → ⊥))
  pub done : x.told.fault ≡ 0 → IsOfSession x.old × IsWant number
  pub refused : x.told.fault ≢ 0 → (x.told ≡ unmoved_with x.told.fault) × (x.new ≡ x.old) × (x.records ≡ x.before) × (x.text ≡ x.blank)
  pub written : WritesFirst x.told.count x.before x.records
  pub lined : WritesWithin x.told.bytes x.blank x.text
