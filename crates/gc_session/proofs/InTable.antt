-- Events that ask for nothing but calls of the table; and calls on a session whose events are such.
use Rattle.gc_session.proofs.Common.{◌≡◌, ℕ, Bool, true, false, if◌then◌else◌, List, [], ◌∷◌, refl, AllByRecursion, all_append, is_of_table, Asked, is_sign_on, Call, Steps, Asks, Comes, Hears, Opens, Closes, Restarts, AsksTheTable, after, anew_events, ask_events, events_all, events_of, line_events, moment_events, next_events, ClientEvent, Stepped, has_begun, later, Session, at_step, next_of, takes, Next, Phase}
use Rattle.gc_client.specs.OneForOne as one
use Rattle.gc_session.specs.declared.next.Next.TheVariants as next
use Rattle.gc_session.specs.declared.standing.Phase.TheVariants as phase

-- the event asks for nothing but a call of the table
abbrev pub IsInTable : ClientEvent → Type 0
IsInTable (Stepped (one.Send target asked deadline)) = is_of_table asked ≡ true
IsInTable event = Unit {0}

-- each of these events asks for nothing but a call of the table
abbrev pub AreInTable : List ClientEvent → Type 0
AreInTable events = AllByRecursion IsInTable events

-- a moment asks for nothing
moment_in_table : (begun : Bool) (now : ℕ) → AreInTable (moment_events begun now)
moment_in_table true now = (tt, tt)
moment_in_table false now = tt

-- what is done next asks for null procedures alone
next_in_table : (w : Next) (s : Session) → AreInTable (next_events w s)
next_in_table next.Null s = (tt, tt)
next_in_table next.Flush s = (refl, tt)
next_in_table next.Renew s = (tt, (tt, tt))
next_in_table _ s = tt

-- a request for a call of the table asks for that, if it is taken
request_in_table : (may : Bool) (target : ℕ) (call : Asked) (deadline : ℕ) → IsInTable (Stepped (one.Send target call deadline)) → AreInTable (ask_events may target call deadline)
request_in_table true target call deadline h = (h, tt)
request_in_table false target call deadline h = tt

-- a line asks for nothing
line_in_table : (p : Phase) (begun : Bool) (line : List ℕ) → AreInTable (line_events p begun line)
line_in_table phase.Ready true line = by_test (is_sign_on line) where
  -- the lemma above, whether it has a sign-on in it
  by_test : (c : Bool) → AreInTable (if c then [] else Stepped (one.Hear line) ∷ [])
  by_test true = tt
  by_test false = (tt, tt)
line_in_table phase.Ready false line = (tt, tt)
line_in_table _ begun line = tt

-- nor does a restart
anew_in_table : (begun : Bool) → AreInTable (anew_events begun)
anew_in_table true = (tt, tt)
anew_in_table false = tt

-- a call that asks for nothing but a call of the table is events of which this holds
call_in_table : (call : Call) (s : Session) → AsksTheTable call → AreInTable (events_of call s)
call_in_table (Steps want now) s h =
    all_append IsInTable (moment_events (has_begun s.standing.exchange) now) (next_events (next_of want (at_step want now s)) (at_step want now s))
    (moment_in_table (has_begun s.standing.exchange) now) (next_in_table (next_of want (at_step want now s)) (at_step want now s))
call_in_table (Asks target call wait) s h = request_in_table (takes target s) target call (later s.standing.moment wait) h
call_in_table (Comes now) s h = moment_in_table (has_begun s.standing.exchange) now
call_in_table (Hears line) s h = line_in_table s.standing.phase (has_begun s.standing.exchange) line
call_in_table (Opens now) s h = moment_in_table (has_begun s.standing.exchange) now
call_in_table (Closes now) s h = moment_in_table (has_begun s.standing.exchange) now
call_in_table Restarts s h = anew_in_table (has_begun s.standing.exchange)

-- the same of calls
pub calls_in_table : (calls : List Call) (s : Session) → AllByRecursion AsksTheTable calls → AreInTable (events_all calls s)
calls_in_table [] s h = tt
calls_in_table (call ∷ calls) s h =
    all_append IsInTable (events_of call s) (events_all calls (after call s)) (call_in_table call s h.0) (calls_in_table calls (after call s) h.1)
