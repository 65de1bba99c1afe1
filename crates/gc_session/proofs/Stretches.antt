-- A session's stretch: it never falls, and grows wherever a connection ends or the client restarts.
use Rattle.gc_session.proofs.Common.{◌≡◌, ℕ, ◌<◌, ◌≤◌, Bool, true, false, if◌then◌else◌, List, [], ◌∷◌, ◌++◌, refl, sym, ap, ◌∙◌, subst, arith, AllByRecursion, all_append, Restart, Hear, Asked, is_sign_on, Next, Want, Phase, Standing, Call, Steps, Asks, Comes, Hears, Opens, Closes, Restarts, after, after_all, moment_events, next_events, ask_events, line_events, events_of, events_all, ClientEvent, Stepped, has_begun, StretchesAreUnbroken, Session, attended, timed, at_step, next_of, done, takes, with_standing, sign_on_noted, asked_if, met_in, is_up, begun_anew}
use Rattle.gc_catalogue.specs.Prelude.{later}
use Rattle.gc_session.proofs.Walk.{attended_along, line_along, quieted_along}
use Rattle.gc_session.specs.declared.next.Next.TheVariants as next
use Rattle.gc_session.specs.declared.standing.Phase.TheVariants as phase

-- the greatest `u64`
abbrev greatest : ℕ
greatest = 18446744073709551615

-- an event isn't a restart of the client
abbrev IsNoRestart : ClientEvent → Type 0
IsNoRestart (Stepped Restart) = ⊥
IsNoRestart event = Unit {0}

-- a call isn't the end of a connection
abbrev IsNoClose : Call → Type 0
IsNoClose (Closes now) = ⊥
IsNoClose call = Unit {0}

-- a stretch that was `a` is `b` after a call, whose events are these: it hasn't fallen, and where it is the same and may still grow, no
-- connection ended, and the client didn't restart
record Grows (call : Call) (events : List ClientEvent) (a b : ℕ) : Type 0 where
  low : a ≤ b
  high : b ≤ greatest
  still : a < greatest → a ≡ b → AllByRecursion IsNoRestart events × IsNoClose call

-- it is so where the stretch grows by one
by_one : (call : Call) (events : List ClientEvent) (a : ℕ) → a ≤ greatest → Grows call events a (later a 1)
by_one call events a most = record { low = omega (arith, most); high = omega arith; still = λ below same. absurd (omega (arith, below, same)) }

-- and where it stays
by_none : (call : Call) (events : List ClientEvent) (a b : ℕ) → a ≤ greatest → b ≡ a → AllByRecursion IsNoRestart events → IsNoClose call → Grows call events a b
by_none call events a b most same none kept = record { low = omega (arith, same); high = omega (arith, most, same); still = λ below e. (none, kept) }

-- the events of a moment are no restart
moment_none : (b : Bool) (now : ℕ) → AllByRecursion IsNoRestart (moment_events b now)
moment_none true now = (tt, tt)
moment_none false now = tt

-- nor are those of a request
ask_none : (b : Bool) (target : ℕ) (call : Asked) (deadline : ℕ) → AllByRecursion IsNoRestart (ask_events b target call deadline)
ask_none true target call deadline = (tt, tt)
ask_none false target call deadline = tt

-- nor those of a line
line_none : (p : Phase) (b : Bool) (line : List ℕ) → AllByRecursion IsNoRestart (line_events p b line)
line_none phase.Ready true line = by_test (is_sign_on line) where
  -- the lemma above, whether it has a sign-on in it
  by_test : (c : Bool) → AllByRecursion IsNoRestart (if c then [] else Stepped (Hear line) ∷ [])
  by_test true = tt
  by_test false = (tt, tt)
line_none phase.Ready false line = (tt, tt)
line_none _ b line = tt

-- the moment of a step leaves the stretch as it is
step_stays : (want : Want) (now : ℕ) (s : Session) → (at_step want now s).standing.stretch ≡ s.standing.stretch
step_stays want now s =
    let t = timed now (attended want now s.standing) in
    quieted_along (λ (u : Standing). u.stretch ≡ t.stretch) t.phase s.settings t (λ q. refl) refl
    ∙ attended_along (λ (u : Standing). u.stretch ≡ s.standing.stretch) want now s.standing refl refl

-- a step of a session
step_grows : (want : Want) (now : ℕ) (s : Session) → s.standing.stretch ≤ greatest
    → Grows (Steps want now) (events_of (Steps want now) s) s.standing.stretch (after (Steps want now) s).standing.stretch
step_grows want now s most = by_next (next_of want (at_step want now s)) where
  -- the session before what is next is done
  before : Session
  before = at_step want now s

  -- where what is next has no restart
  without : (n : Next) → (done n before).standing.stretch ≡ before.standing.stretch → AllByRecursion IsNoRestart (next_events n before)
      → Grows (Steps want now) (moment_events (has_begun s.standing.exchange) now ++ next_events n before) s.standing.stretch (done n before).standing.stretch
  without n same none =
      by_none (Steps want now) _ s.standing.stretch (done n before).standing.stretch most (same ∙ step_stays want now s)
      (all_append IsNoRestart (moment_events (has_begun s.standing.exchange) now) (next_events n before) (moment_none (has_begun s.standing.exchange) now) none) tt

  -- the lemma above, by what is next
  by_next : (n : Next) → Grows (Steps want now) (moment_events (has_begun s.standing.exchange) now ++ next_events n before) s.standing.stretch (done n before).standing.stretch
  by_next next.Null = without next.Null refl (tt, tt)
  by_next next.Flush = without next.Flush refl (tt, tt)
  by_next next.Renew =
      subst (λ (b : ℕ). Grows (Steps want now) (moment_events (has_begun s.standing.exchange) now ++ next_events next.Renew before) s.standing.stretch b)
      (ap (λ (a : ℕ). later a 1) (sym (step_stays want now s))) (by_one (Steps want now) _ s.standing.stretch most)
  by_next n = without n refl tt

-- a request
ask_stays : (s : Session) (target : ℕ) (call : Asked) (wait : ℕ) (b : Bool) → (asked_if b target call wait s).standing.stretch ≡ s.standing.stretch
ask_stays s target call wait true = refl
ask_stays s target call wait false = refl

-- the caller's wish that the session begins anew
anew_stretch : (s : Session) (b : Bool) → (begun_anew b s).standing.stretch ≡ later s.standing.stretch 1
anew_stretch s true = refl
anew_stretch s false = refl

-- bytes that come
met_stays : (up : Bool) (now : ℕ) (t : Standing) → (met_in up now t).stretch ≡ t.stretch
met_stays true now t = refl
met_stays false now t = refl

-- each call
call_grows : (s : Session) (call : Call) → s.standing.stretch ≤ greatest → Grows call (events_of call s) s.standing.stretch (after call s).standing.stretch
call_grows s (Steps want now) most = step_grows want now s most
call_grows s (Asks target call wait) most =
    by_none (Asks target call wait) _ s.standing.stretch (after (Asks target call wait) s).standing.stretch most (ask_stays s target call wait (takes target s))
    (ask_none (takes target s) target call (later s.standing.moment wait)) tt
call_grows s (Comes now) most =
    by_none (Comes now) _ s.standing.stretch (after (Comes now) s).standing.stretch most (met_stays (is_up s.standing.phase) now s.standing) (moment_none (has_begun s.standing.exchange) now) tt
call_grows s (Hears line) most =
    by_none (Hears line) _ s.standing.stretch (after (Hears line) s).standing.stretch most
    (line_along (λ (t : Session). t.standing.stretch ≡ s.standing.stretch) (with_standing (sign_on_noted (is_sign_on line)) s) line s.standing.phase (has_begun s.standing.exchange)
    refl refl refl)
    (line_none s.standing.phase (has_begun s.standing.exchange) line) tt
call_grows s (Opens now) most = by_none (Opens now) _ s.standing.stretch s.standing.stretch most refl (moment_none (has_begun s.standing.exchange) now) tt
call_grows s (Closes now) most = by_one (Closes now) _ s.standing.stretch most
call_grows s Restarts most =
    subst (λ (b : ℕ). Grows Restarts (events_of Restarts s) s.standing.stretch b) (sym (anew_stretch s (has_begun s.standing.exchange)))
    (by_one Restarts _ s.standing.stretch most)

-- any calls
record AllGrow (calls : List Call) (events : List ClientEvent) (a b : ℕ) : Type 0 where
  low : a ≤ b
  high : b ≤ greatest
  still : a < greatest → a ≡ b → AllByRecursion IsNoRestart events × AllByRecursion IsNoClose calls

-- they make the stretch grow as each does
calls_grow : (calls : List Call) (s : Session) → s.standing.stretch ≤ greatest → AllGrow calls (events_all calls s) s.standing.stretch (after_all calls s).standing.stretch
calls_grow [] s most = record { low = omega arith; high = most; still = λ below same. (tt, tt) }
calls_grow (call ∷ calls) s most =
    let t = after call s in
    let one = call_grows s call most in
    let more = calls_grow calls t one.high in
    let low = one.low in
    let then_low = more.low in
    record {
      low = omega (arith, low, then_low);
      high = more.high;
      still = λ below same.
          let first = one.still below (omega (arith, same, low, then_low)) in
          let rest = more.still (omega (arith, below, same, low, then_low)) (omega (arith, same, low, then_low)) in
          (all_append IsNoRestart (events_of call s) (events_all calls t) first.0 rest.0, (first.1, rest.1));
    }

-- what holds of all holds of one among them
pub all_among : {X : Type 0} (P : X → Type 0) (front : List X) (x : X) (later : List X) → AllByRecursion P (front ++ x ∷ later) → P x
all_among P [] x later all = all.0
all_among P (y ∷ front) x later all = all_among P front x later all.1

-- the law: where a stretch stays, no connection ended, and the client didn't restart
pub unbroken : StretchesAreUnbroken
unbroken s calls below same =
    let it = (calls_grow calls s (omega (arith, below))).still below (sym same) in
    record {
      connected = λ front later now e. all_among IsNoClose front (Closes now) later (subst (λ (l : List Call). AllByRecursion IsNoClose l) e it.1);
      whole = λ front later e. all_among IsNoRestart front (Stepped Restart) later (subst (λ (l : List ClientEvent). AllByRecursion IsNoRestart l) e it.0);
    }
