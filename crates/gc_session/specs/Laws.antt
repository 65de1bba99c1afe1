-- What holds of any calls on a session, this project's own: they are one list of events of its client, each in its turn; it sends by the
-- rules that the theorems on an instrument and a line ask for; and its settlements are those of its client.
use Rattle.gc_session.specs.Common.{is_of_table, Asked, Table, NullProc, the_word, Course, Step, Send, Hear, Restart, Wanted, of_settled, of_pending, begun, course, ById, Settlement, Lost, fresh, hears_line, WINDOW}
use Rattle.std.specs.Prelude.{◌≡◌, ◌≢◌, ◌↔◌, ℕ, ◌+◌, ◌<◌, ◌≤◌, Bool, true, false, not, nat_eq, List, [], ◌∷◌, ◌++◌, length, map, filter, Some, slice_get, if◌then◌else◌}
use Rattle.std.specs.List.{AllByRecursion}
use Rattle.gc_session.specs.declared.settings.Settings.{Settings}
use Rattle.gc_session.specs.declared.settings.Want.{Want}
use Rattle.gc_session.specs.declared.session.TheConstants.{OWN}
use Rattle.gc_session.specs.Calls.{Call, Asks, Closes, after, after_all, events_all, settled_all, Steps, Comes, Opens}
use Rattle.gc_session.specs.Courses.{client_stepped}
use Rattle.gc_session.specs.Events.{ClientEvent, Stepped, AreInTurn, left_among, steps_among, steps_since}
use Rattle.gc_session.specs.declared.exchange.Exchange.{Exchange}
use Rattle.gc_session.specs.Exchange.{asks_at, ended_last, is_past, may_ask, moment_passed, past_at}
use Rattle.gc_session.specs.Lines.{calls_for_renewal}
use Rattle.gc_session.specs.Sessions.{Session, came, opening, takes, stepped, next_of, at_step, is_up}
use Rattle.gc_session.specs.declared.next.Next.TheVariants as next
use Rattle.gc_session.specs.declared.standing.Phase.TheVariants as phase

-- these calls on a new session are events of its client, each in its turn, and bring it to where its rule brings it over these events
pub record CallsAreEvents (settings : Settings) (calls : List Call) : Type 0 where
  pub turns : AreInTurn the_word (events_all calls (opening settings))
  pub client : (after_all calls (opening settings)).client ≡ (course WINDOW begun (steps_among (events_all calls (opening settings)))).client
  pub settled : settled_all calls (opening settings) ≡ (course WINDOW begun (steps_among (events_all calls (opening settings)))).settlements
  pub left : (after_all calls (opening settings)).standing.exchange.word ≡ left_among the_word (events_all calls (opening settings))

-- it is so of any calls
abbrev pub SessionsAreTheirClients : Type 0
SessionsAreTheirClients = (settings : Settings) (calls : List Call) → CallsAreEvents settings calls

-- the settlement `x` is of a call of the table that a reply ended: it was answered, or late
abbrev pub IsRepliedTableCall : Settlement Asked → Type 0
IsRepliedTableCall x = (is_of_table x.call ≡ true) × (x.outcome ≡ Lost → ⊥)

-- of the requests that a client sent since its synchronization (`x.sent`), one of the last seven is a call of the table that a reply ended:
-- request `k`, with its settlement `s`
abbrev pub IsNearTheTable : Course Asked → Type 0
IsNearTheTable x =
    (k : ℕ) × (s : Settlement Asked) × (slice_get x.settlements k ≡ Some s) × IsRepliedTableCall s
    × (length x.sent ≤ k + WINDOW)

-- wherever a request of the caller's is sent among the events of any calls, one of the seven requests before it, since the
-- synchronization, is a call of the table that a reply ended; `front` are the events before it
abbrev pub RequestsAreSentNearTheTable : Type 0
RequestsAreSentNearTheTable =
    (settings : Settings) (calls : List Call) (front later : List ClientEvent) (target : ℕ) (call : Asked) (deadline : ℕ) →
    events_all calls (opening settings) ≡ front ++ Stepped (Send target call deadline) ∷ later → target ≢ OWN
    → IsNearTheTable (course WINDOW begun (steps_since [] front))

-- how many requests the last line ended that ended any, after a step of this client; `last` before it
abbrev pub last_ended_at : ById Asked → (last : ℕ) → Step Asked → ℕ
last_ended_at c last (Hear line) = ended_last (length (hears_line c line).settlements) last
last_ended_at c last _ = last

-- the same after these steps of this client, in order
abbrev pub last_ended : ById Asked → (last : ℕ) → List (Step Asked) → ℕ
last_ended c last [] = last
last_ended c last (step ∷ steps) = last_ended (client_stepped c step) (last_ended_at c last step) steps

-- wherever a request is sent among the events of any calls, null procedures of the session's own too: the outstanding requests, and those
-- that the last line ended that ended any since the synchronization, are together fewer than seven
abbrev pub RequestsAreHeldBack : Type 0
RequestsAreHeldBack =
    (settings : Settings) (calls : List Call) (front later : List ClientEvent) (target : ℕ) (call : Asked) (deadline : ℕ) →
    events_all calls (opening settings) ≡ front ++ Stepped (Send target call deadline) ∷ later
    → length (course WINDOW begun (steps_since [] front)).client.waiting + last_ended fresh 1 (steps_since [] front) < WINDOW

-- wherever a request is sent among the events of any calls, null procedures of the session's own too: no line that the client heard since
-- the synchronization called for another one (`calls_for_renewal`). `before` are the client's steps before such a line
abbrev pub NothingIsSentInDoubt : Type 0
NothingIsSentInDoubt =
    (settings : Settings) (calls : List Call) (front later : List ClientEvent) (target : ℕ) (call : Asked) (deadline : ℕ) (before between : List (Step Asked)) (line : List ℕ) →
    events_all calls (opening settings) ≡ front ++ Stepped (Send target call deadline) ∷ later → steps_since [] front ≡ before ++ Hear line ∷ between
    → calls_for_renewal (course WINDOW begun before).client line ≡ false

-- wherever a request with the target of the session's own ones is sent among the events of any calls, it is a null procedure
abbrev pub OwnRequestsAreNullProcedures : Type 0
OwnRequestsAreNullProcedures =
    (settings : Settings) (calls : List Call) (front later : List ClientEvent) (call : Asked) (deadline : ℕ) →
    events_all calls (opening settings) ≡ front ++ Stepped (Send OWN call deadline) ∷ later → call ≡ Table NullProc

-- Settlements.

-- the caller's request, if the session takes it (`may`)
abbrev pub taken_if : (may : Bool) (target : ℕ) (call : Asked) → List (Wanted Asked)
taken_if true target call = record { target = target; call = call } ∷ []
taken_if false target call = []

-- the caller's request that the session takes at a call, if it takes one
abbrev pub taken_by : Call → Session → List (Wanted Asked)
taken_by (Asks target call wait) s = taken_if (takes target s) target call
taken_by other s = []

-- the caller's requests that the session takes at these calls, in order
abbrev pub taken_all : List Call → Session → List (Wanted Asked)
taken_all [] s = []
taken_all (call ∷ calls) s = taken_by call s ++ taken_all calls (after call s)

-- the requests that a new session settles at these calls, and after them those that are outstanding then
abbrev pub settled_and_outstanding : Settings → List Call → List (Wanted Asked)
settled_and_outstanding settings calls =
    map of_settled (settled_all calls (opening settings)) ++ map of_pending (after_all calls (opening settings)).client.waiting

-- whether a request is the caller's, by its target: the session's own ones have the target `OWN`
abbrev pub is_of_caller : Wanted Asked → Bool
is_of_caller x = not (nat_eq x.target OWN)

-- if a request is the session's own, by its target, it is a null procedure
abbrev pub IsNullIfOwn : Wanted Asked → Type 0
IsNullIfOwn x = x.target ≡ OWN → x.call ≡ Table NullProc

-- of the requests that a new session settles at these calls, and of those that are outstanding then: those for the caller's targets are
-- the requests that the session took from its caller, in order, each once; and all others are null procedures
pub record SettlesTheAsks (settings : Settings) (calls : List Call) : Type 0 where
  pub asks : filter is_of_caller (settled_and_outstanding settings calls) ≡ taken_all calls (opening settings)
  pub own : AllByRecursion IsNullIfOwn (settled_and_outstanding settings calls)

-- it is so of any calls
abbrev pub AccountsForAsks : Type 0
AccountsForAsks = (settings : Settings) (calls : List Call) → SettlesTheAsks settings calls

-- Stretches.

-- no connection ended at these calls, and none of their events, from this session on, is a restart of its client
pub record AreOfOneStretch (s : Session) (calls : List Call) : Type 0 where
  pub connected : (front later : List Call) (now : ℕ) → calls ≡ front ++ Closes now ∷ later → ⊥
  pub whole : (front later : List ClientEvent) → events_all calls s ≡ front ++ Stepped Restart ∷ later → ⊥

-- if a session's stretch is the same before and after some calls, no connection ended at them, and its client didn't restart. At the greatest
-- `u64` the stretch can grow no more, so nothing is said of that one
abbrev pub StretchesAreUnbroken : Type 0
StretchesAreUnbroken =
    (s : Session) (calls : List Call) → s.standing.stretch < 18446744073709551615 → (after_all calls s).standing.stretch ≡ s.standing.stretch
    → AreOfOneStretch s calls

-- Quiet times.

-- the moment that a call tells, or else the last one before it, `m`
abbrev pub moment_of : (m : ℕ) → Call → ℕ
moment_of m (Steps want now) = now
moment_of m (Comes now) = now
moment_of m (Opens now) = now
moment_of m (Closes now) = now
moment_of m other = m

-- the last moment that these calls tell; `m` if they tell none
abbrev pub moment_after : (m : ℕ) → List Call → ℕ
moment_after m [] = m
moment_after m (call ∷ calls) = moment_after (moment_of m call) calls

-- the clock doesn't go back over these calls, from the moment `m` on
abbrev pub GoesForward : (m : ℕ) → List Call → Type 0
GoesForward m [] = Unit {0}
GoesForward m (call ∷ calls) = (m ≤ moment_of m call) × GoesForward (moment_of m call) calls

-- the moment by which bytes came last over a connection, after a call on this session; `last` before it
abbrev pub came_at : Session → (last : ℕ) → Call → ℕ
came_at s last (Comes now) = if is_up s.standing.phase then now else last
came_at s last other = last

-- the same after these calls
abbrev pub last_came : Session → (last : ℕ) → List Call → ℕ
last_came s last [] = last
last_came s last (call ∷ calls) = last_came (after call s) (came_at s last call) calls

-- if a session had the line feed of a connection sent at the moment `start`, the clock doesn't go back over the calls from then on, the
-- connection still drains after them, and a step at the moment `now` has it ready: then at least the quiet time has passed since the line
-- feed, and since bytes came last
abbrev pub ConnectionsAreDrained : Type 0
ConnectionsAreDrained =
    (s : Session) (want other : Want) (start now : ℕ) (calls : List Call) →
    let u = after_all calls (stepped want start s) in
    next_of want (at_step want start s) ≡ next.Clear → GoesForward start calls → moment_after start calls ≤ now
    → u.standing.phase ≡ phase.Draining → (stepped other now u).standing.phase ≡ phase.Ready
    → last_came (stepped want start s) start calls + u.settings.quiet ≤ now

-- Moments.

-- if bytes came once more by the same moment, nothing more has changed
abbrev pub ComingTwiceIsComingOnce : Type 0
ComingTwiceIsComingOnce = (now : ℕ) (s : Session) → came now (came now s) ≡ came now s

-- the moments that are said of waits are those at which they end: at least `wait` milliseconds lie between `since` and the moment `now` exactly
-- from `past_at` on, if `wait` isn't 0, and that moment fits in 64 bits; and once the moment `now` was noted the null procedure of the first id
-- that isn't answered may be sent exactly if `asks_at` is no later
pub record WaitsEndAtTheirMoments : Type 0 where
  pub past : (wait now : ℕ) (x : Exchange) → 0 < wait → x.since + wait ≤ 18446744073709551615 → (is_past wait now x ≡ true) ↔ (past_at wait x ≤ now)
  pub asks : (now : ℕ) (x : Exchange) → (may_ask now (moment_passed now x) ≡ true) ↔ (asks_at x ≤ now)
