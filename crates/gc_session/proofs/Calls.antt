-- What each call of a session's caller brings about, and what any calls do.
use Rattle.gc_session.proofs.Common.{◌≡◌, ◌≢◌, ℕ, ◌&&◌, Bool, true, false, not, if◌then◌else◌, nat_eq, List, [], ◌∷◌, refl, sym, ap, ◌∙◌, subst, arith, ◌||◌, or_parts, and_parts, nat_tests, Asked, Wanted, Hear, ById, Settlement, expires, hears_line, Exchange, Next, OWN, Settings, Want, Phase, Standing, is_sign_on, Call, Steps, Asks, Comes, Hears, Opens, Closes, Restarts, after, after_all, settles, settled_all, moment_events, next_events, ask_events, line_events, anew_events, events_of, events_all, ClientEvent, Stepped, has_begun, later, calls_for_renewal, taken_if, taken_by, taken_all, Session, opening, attended, timed, is_up, met_in, quieted, connected, unconnected, with_standing, sign_on_noted, at_step, next_of, done, settled_by, takes, may_send, asked_if, line_came_in, line_heard_if, settled_in, begun_anew, anew_settles, phase_anew}
use Rattle.gc_catalogue.specs.declared.asked.Asked.TheVariants.{Table}
use Rattle.gc_catalogue.specs.declared.call.Call.TheVariants.{NullProc}
use Rattle.gc_session.specs.declared.settings.Want.TheVariants.{Send}
use Rattle.gc_session.proofs.Brings.{Fits, Brings, brings_both, Keeps, keeps_all, keeps_both, brings_none, brings_null, brings_came, brings_moment, brings_hear, brings_restart, brings_renewal, brings_send}
use Rattle.gc_session.proofs.Nexts.{HoldsAt, next_holds}
use Rattle.gc_session.proofs.Places.{Place, the_start, moved_all}
use Rattle.gc_session.proofs.Walk.{attended_along, quieted_along}
use Rattle.gc_session.specs.declared.next.Next.TheVariants as next
use Rattle.gc_session.specs.declared.standing.Phase.TheVariants as phase
use Rattle.gc_session.specs.Exchange as exchange

-- Moments.

-- a moment, whether the client has synchronized or not
moment_brings : (c : ById Asked) (x y : Exchange) (p : Place) (now : ℕ) → Fits c x p → Keeps x y → Brings p (moment_events (has_begun x) now) [] [] (expires c now) y
moment_brings c x y p now f k = by_test (has_begun x) refl where
  -- the lemma above, whether it has
  by_test : (b : Bool) → has_begun x ≡ b → Brings p (moment_events b now) [] [] (expires c now) y
  by_test true e = brings_moment c x y p f e now k
  by_test false e =
      subst (λ (d : ById Asked). Brings p [] [] [] d y) (sym (ap (λ (d : ById Asked). expires d now) (f.new e) ∙ sym (f.new e))) (brings_none c x y p f k)

-- the moment of a step keeps the exchange
step_keeps : (want : Want) (now : ℕ) (s : Session) → Keeps s.standing.exchange (at_step want now s).standing.exchange
step_keeps want now s =
    let t = attended want now s.standing in
    let u = timed now t in
    keeps_both s.standing.exchange t.exchange (quieted s.settings u).exchange
    (attended_along (λ (v : Standing). Keeps s.standing.exchange v.exchange) want now s.standing (keeps_all s.standing.exchange) (record { word = refl; ended = refl; behind = refl; doubtful = λ e. e }))
    (quieted_along (λ (v : Standing). Keeps t.exchange v.exchange) u.phase s.settings u (λ q. record { word = refl; ended = refl; behind = refl; doubtful = λ e. e })
    (record { word = refl; ended = refl; behind = refl; doubtful = λ e. e }))

-- so do bytes that come
met_keeps : (up : Bool) (now : ℕ) (t : Standing) → Keeps t.exchange (met_in up now t).exchange
met_keeps true now t = record { word = refl; ended = refl; behind = refl; doubtful = λ e. e }
met_keeps false now t = record { word = refl; ended = refl; behind = refl; doubtful = λ e. e }

-- Calls.

-- these events bring a session's client from this place to where it is in another session
abbrev BringsTo : Place → List ClientEvent → List (Settlement Asked) → List (Wanted Asked) → Session → Type 0
BringsTo p events ss ts t = Brings p events ss ts t.client t.standing.exchange

-- a session's client is at this place
abbrev FitsIn : Session → Place → Type 0
FitsIn s p = Fits s.client s.standing.exchange p

-- what is next
next_brings : (s : Session) (n : Next) (p : Place) → FitsIn s p → HoldsAt s n → BringsTo p (next_events n s) (settled_by n s) [] (done n s)
next_brings s next.Clear p f holds =
    brings_none s.client s.standing.exchange _ p f (record { word = refl; ended = refl; behind = refl; doubtful = λ e. e })
next_brings s next.Null p f holds = brings_null s.client s.standing.exchange _ p f refl refl refl (λ e. e)
next_brings s next.Flush p f holds =
    brings_send s.client s.standing.exchange (exchange.request_noted s.standing.moment s.standing.exchange) p f holds.0 OWN (Table NullProc)
    (later s.standing.moment s.settings.timeout) [] holds.1 (λ other. absurd (other refl)) (λ same. refl) refl refl refl refl (λ e. e)
next_brings s next.Renew p f holds = brings_renewal s.client s.standing.exchange _ p f holds refl refl refl
next_brings s _ p f holds = brings_none s.client s.standing.exchange s.standing.exchange p f (keeps_all s.standing.exchange)

-- a session takes a request only where that is next
asks_hold : (s : Session) (n : Next) → may_send n ≡ true → HoldsAt s n → HoldsAt s next.Ask
asks_hold s next.Ask e holds = holds
asks_hold s _ e holds = cc

-- a request of the caller's, taken or not
ask_brings : (s : Session) (target : ℕ) (call : Asked) (wait : ℕ) (p : Place) → FitsIn s p
    → BringsTo p (ask_events (takes target s) target call (later s.standing.moment wait)) [] (taken_if (takes target s) target call) (asked_if (takes target s) target call wait s)
ask_brings s target call wait p f = by_test (takes target s) refl where
  -- the lemma above, whether it is
  by_test : (b : Bool) → takes target s ≡ b
      → BringsTo p (ask_events b target call (later s.standing.moment wait)) [] (taken_if b target call) (asked_if b target call wait s)
  by_test false e = brings_none s.client s.standing.exchange s.standing.exchange p f (keeps_all s.standing.exchange)
  by_test true e =
      let both = and_parts (not (nat_eq target OWN)) (may_send (next_of Send s)) e in
      let holds = asks_hold s (next_of Send s) both.1 (next_holds s Send) in
      let other : target ≢ OWN = grind (arith, nat_tests, both.0) in
      brings_send s.client s.standing.exchange (exchange.request_noted s.standing.moment s.standing.exchange) p f holds.0 target call (later s.standing.moment wait)
      (record { target = target; call = call } ∷ []) holds.1 (λ _. holds.2) (λ same. absurd (other same))
      (ap (λ (b : Bool). if b then record { target = target; call = call } ∷ [] else []) both.0) refl refl refl (λ e. e)

-- a line
line_brings : (s : Session) (line : List ℕ) (p : Place) → FitsIn s p → BringsTo p (events_of (Hears line) s) (settles (Hears line) s) [] (after (Hears line) s)
line_brings s line p f = by_phase s.standing.phase (has_begun s.standing.exchange) refl where
  -- the session once a sign-on in the line is noted
  noted : Session
  noted = with_standing (sign_on_noted (is_sign_on line)) s

  -- where the sign-on raises no doubt, none was there before
  or_first : noted.standing.exchange.doubtful ≡ false → s.standing.exchange.doubtful ≡ false
  or_first d = (or_parts s.standing.exchange.doubtful (is_sign_on line && has_begun s.standing.exchange) d).0

  -- a line that is discarded
  discarded : BringsTo p [] [] [] noted
  discarded = brings_none s.client s.standing.exchange _ p f (record { word = refl; ended = refl; behind = refl; doubtful = or_first })

  -- a line that is heard, unless it has a sign-on in it
  heard_by : has_begun s.standing.exchange ≡ true → (c : Bool)
      → BringsTo p (if c then [] else Stepped (Hear line) ∷ []) (if c then [] else (hears_line s.client line).settlements) [] (line_heard_if c line noted)
  heard_by e true = discarded
  heard_by e false =
      brings_hear s.client s.standing.exchange _ p f e line refl refl refl
      (λ d.
      let parts = or_parts (s.standing.exchange.doubtful || (is_sign_on line && has_begun s.standing.exchange)) (calls_for_renewal s.client line) d in
      (or_first parts.0, parts.1))

  -- the lemma above, by the phase, and whether the client has synchronized
  by_phase : (q : Phase) (b : Bool) → has_begun s.standing.exchange ≡ b → BringsTo p (line_events q b line) (settled_in q b line s) [] (line_came_in q b line noted)
  by_phase phase.Ready true e = heard_by e (is_sign_on line)
  by_phase phase.Ready false e = brings_came s.client s.standing.exchange _ p line f e refl refl refl or_first
  by_phase _ b e = discarded

-- the caller's wish that the session begins anew
anew_brings : (s : Session) (p : Place) → FitsIn s p → BringsTo p (events_of Restarts s) (settles Restarts s) [] (after Restarts s)
anew_brings s p f = by_test (has_begun s.standing.exchange) refl where
  -- the lemma above, whether the client has synchronized
  by_test : (b : Bool) → has_begun s.standing.exchange ≡ b
      → BringsTo p (anew_events b) (anew_settles b s) [] (with_standing (λ t. record t { phase = phase_anew t.phase }) (begun_anew b s))
  by_test true e = brings_restart s.client s.standing.exchange _ p f e refl refl refl
  by_test false e = brings_none s.client s.standing.exchange _ p f (record { word = refl; ended = refl; behind = refl; doubtful = λ e. e })

-- each call
call_brings : (s : Session) (call : Call) (p : Place) → FitsIn s p → BringsTo p (events_of call s) (settles call s) (taken_by call s) (after call s)
call_brings s (Steps want now) p f =
    let t = at_step want now s in
    let n = next_of want t in
    let moment = moment_brings s.client s.standing.exchange t.standing.exchange p now f (step_keeps want now s) in
    let front = moment_events (has_begun s.standing.exchange) now in
    brings_both p front (next_events n t) [] (settled_by n t) [] [] t.client (done n t).client t.standing.exchange (done n t).standing.exchange moment
    (next_brings t n (moved_all front p) moment.fits (next_holds t want))
call_brings s (Asks target call wait) p f = ask_brings s target call wait p f
call_brings s (Comes now) p f = moment_brings s.client s.standing.exchange (met_in (is_up s.standing.phase) now s.standing).exchange p now f (met_keeps (is_up s.standing.phase) now s.standing)
call_brings s (Hears line) p f = line_brings s line p f
call_brings s (Opens now) p f = moment_brings s.client s.standing.exchange (connected now s.standing).exchange p now f (record { word = refl; ended = refl; behind = refl; doubtful = λ e. e })
call_brings s (Closes now) p f =
    moment_brings s.client s.standing.exchange (unconnected s.settings now s.standing).exchange p now f (record { word = refl; ended = refl; behind = refl; doubtful = λ e. e })
call_brings s Restarts p f = anew_brings s p f

-- any calls
calls_bring : (calls : List Call) (s : Session) (p : Place) → FitsIn s p → BringsTo p (events_all calls s) (settled_all calls s) (taken_all calls s) (after_all calls s)
calls_bring [] s p f = brings_none s.client s.standing.exchange s.standing.exchange p f (keeps_all s.standing.exchange)
calls_bring (call ∷ calls) s p f =
    let t = after call s in
    let u = after_all calls t in
    let here = call_brings s call p f in
    brings_both p (events_of call s) (events_all calls t) (settles call s) (settled_all calls t) (taken_by call s) (taken_all calls t)
    t.client u.client t.standing.exchange u.standing.exchange here (calls_bring calls t (moved_all (events_of call s) p) here.fits)

-- any calls on a new session
pub from_the_start : (settings : Settings) (calls : List Call)
    → BringsTo the_start (events_all calls (opening settings)) (settled_all calls (opening settings)) (taken_all calls (opening settings)) (after_all calls (opening settings))
from_the_start settings calls =
    calls_bring calls (opening settings) the_start
    (record { left = refl; client = refl; part = refl; ended = refl; behind = λ low. absurd (omega (arith, low)); calm = λ e. tt; new = λ e. refl; own = tt })
