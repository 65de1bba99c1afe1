-- What a session's caller does, call by call, and what each call is to the session's client, this project's own.
use Rattle.gc_session.specs.Common.{is_of_table, Asked, Table, NullProc, Settlement, is_sign_on}
use Rattle.std.specs.Prelude.{◌≡◌, ℕ, Bool, true, false, if◌then◌else◌, List, [], ◌∷◌, ◌++◌}
use Rattle.gc_session.specs.declared.next.Next.{Next}
use Rattle.gc_session.specs.declared.settings.Want.{Want}
use Rattle.gc_session.specs.declared.session.TheConstants.{OWN}
use Rattle.gc_session.specs.declared.standing.Phase.{Phase}
use Rattle.gc_session.specs.Events.{ClientEvent, Null, Came, Stepped}
use Rattle.gc_session.specs.Exchange.{has_begun, later}
use Rattle.gc_session.specs.Sessions.{Session, at_step, next_of, stepped, settled_by, takes, asked, came, line_came, line_settles, opened, closed, anew, anew_settles}
use Rattle.gc_client.specs.OneForOne as one
use Rattle.gc_session.specs.declared.next.Next.TheVariants as next
use Rattle.gc_session.specs.declared.standing.Phase.TheVariants as phase

-- a call of a session's caller: what it does at a moment if this is wanted; a request; bytes came by a moment, a line of them is heard; a
-- connection was made, or ended; and the caller has it begin anew
pub data Call : Type 0 where
  Steps : (want : Want) (now : ℕ) → Call
  Asks : (target : ℕ) (call : Asked) (wait : ℕ) → Call
  Comes : (now : ℕ) → Call
  Hears : (line : List ℕ) → Call
  Opens : (now : ℕ) → Call
  Closes : (now : ℕ) → Call
  Restarts : Call

-- the session after a call
abbrev pub after : Call → Session → Session
after (Steps want now) s = stepped want now s
after (Asks target call wait) s = asked target call wait s
after (Comes now) s = came now s
after (Hears line) s = line_came line s
after (Opens now) s = opened now s
after (Closes now) s = closed now s
after Restarts s = anew s

-- the session after these calls, in order
abbrev pub after_all : List Call → Session → Session
after_all [] s = s
after_all (call ∷ calls) s = after_all calls (after call s)

-- what a call settles
abbrev pub settles : Call → Session → List (Settlement Asked)
settles (Steps want now) s = settled_by (next_of want (at_step want now s)) (at_step want now s)
settles (Hears line) s = line_settles line s
settles Restarts s = anew_settles (has_begun s.standing.exchange) s
settles other s = []

-- what these calls settle, in order
abbrev pub settled_all : List Call → Session → List (Settlement Asked)
settled_all [] s = []
settled_all (call ∷ calls) s = settles call s ++ settled_all calls (after call s)

-- Events.

-- the event of a moment: a client that has synchronized times out what is due
abbrev pub moment_events : (begun : Bool) (now : ℕ) → List ClientEvent
moment_events true now = Stepped (one.Expire now) ∷ []
moment_events false now = []

-- the events of what is done next
abbrev pub next_events : Next → Session → List ClientEvent
next_events next.Null s = Null ∷ []
next_events next.Flush s = Stepped (one.Send OWN (Table NullProc) (later s.standing.moment s.settings.timeout)) ∷ []
next_events next.Renew s = Stepped one.Restart ∷ Null ∷ []
next_events _ s = []

-- the events of a request of the caller's, where `may` says whether the session takes it
abbrev pub ask_events : (may : Bool) (target : ℕ) (call : Asked) (deadline : ℕ) → List ClientEvent
ask_events true target call deadline = Stepped (one.Send target call deadline) ∷ []
ask_events false target call deadline = []

-- the events of a line in this phase, where `begun` says whether the session has synchronized: a line that is discarded is none
abbrev pub line_events : Phase → (begun : Bool) → List ℕ → List ClientEvent
line_events phase.Ready true line = if is_sign_on line then [] else Stepped (one.Hear line) ∷ []
line_events phase.Ready false line = Came line ∷ []
line_events _ begun line = []

-- the events of the caller's wish that the session begins anew
abbrev pub anew_events : (begun : Bool) → List ClientEvent
anew_events true = Stepped one.Restart ∷ []
anew_events false = []

-- the events of a call
abbrev pub events_of : Call → Session → List ClientEvent
events_of (Steps want now) s = moment_events (has_begun s.standing.exchange) now ++ next_events (next_of want (at_step want now s)) (at_step want now s)
events_of (Asks target call wait) s = ask_events (takes target s) target call (later s.standing.moment wait)
events_of (Comes now) s = moment_events (has_begun s.standing.exchange) now
events_of (Hears line) s = line_events s.standing.phase (has_begun s.standing.exchange) line
events_of (Opens now) s = moment_events (has_begun s.standing.exchange) now
events_of (Closes now) s = moment_events (has_begun s.standing.exchange) now
events_of Restarts s = anew_events (has_begun s.standing.exchange)

-- the events of these calls, in order
abbrev pub events_all : List Call → Session → List ClientEvent
events_all [] s = []
events_all (call ∷ calls) s = events_of call s ++ events_all calls (after call s)

-- if the call is a request of the caller's, it is for a call of the table
abbrev pub AsksTheTable : Call → Type 0
AsksTheTable (Asks target call wait) = is_of_table call ≡ true
AsksTheTable other = Unit {0}
