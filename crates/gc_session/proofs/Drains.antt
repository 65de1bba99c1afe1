-- From when the quiet time counts: as long as the clock doesn't go back, from no earlier than the line feed of a connection, and than what
-- came last.
use Rattle.gc_session.proofs.Common.{◌≡◌, ℕ, ◌-◌, ◌≤◌, ◌&&◌, Bool, true, false, if◌then◌else◌, min, List, [], ◌∷◌, refl, sym, ap, ◌∙◌, subst, arith, and_parts, nat_tests, Asked, is_sign_on, Next, Want, Phase, Standing, Call, Steps, Asks, Comes, Hears, Opens, Closes, Restarts, after, after_all, has_begun, is_past, moment_of, moment_after, GoesForward, came_at, last_came, ConnectionsAreDrained, Session, attended, timed, quieted_in, at_step, next_of, next_in, done, stepped, takes, with_standing, sign_on_noted, asked_if, begun_anew, is_up, met_in, wanted_of, all_of}
use Rattle.gc_session.proofs.Walk.{attended_along, line_along, quieted_along}
use Rattle.gc_session.specs.declared.next.Next.TheVariants as next
use Rattle.gc_session.specs.declared.standing.Phase.TheVariants as phase
use Rattle.gc_session.specs.Exchange as exchange

-- the moment from which the quiet time counts
abbrev since_of : Session → ℕ
since_of s = s.standing.exchange.since

-- what is wanted doesn't change it
attended_since : (want : Want) (now : ℕ) (t : Standing) → (attended want now t).exchange.since ≡ t.exchange.since
attended_since want now t = attended_along (λ (u : Standing). u.exchange.since ≡ t.exchange.since) want now t refl refl

-- nor does a step, before what is next is done, but for the clock
step_since : (want : Want) (now : ℕ) (s : Session) → (since_of (at_step want now s) ≡ min (since_of s) now) × ((at_step want now s).standing.moment ≡ now)
step_since want now s =
    let t = timed now (attended want now s.standing) in
    let it = quieted_along (λ (u : Standing). (u.exchange.since ≡ t.exchange.since) × (u.moment ≡ t.moment)) t.phase s.settings t (λ q. (refl, refl)) (refl, refl) in
    (it.0 ∙ ap (λ (n : ℕ). min n now) (attended_since want now s.standing), it.1)

-- what is next: only a line feed has it count from now
done_since : (n : Next) (s : Session) → (lo hi : ℕ) → lo ≤ since_of s → since_of s ≤ hi → lo ≤ s.standing.moment → s.standing.moment ≤ hi → (lo ≤ since_of (done n s)) × (since_of (done n s) ≤ hi)
done_since next.Clear s lo hi a b c d = (c, d)
done_since _ s lo hi a b c d = (a, b)

-- a request changes nothing there
ask_since : (s : Session) (target : ℕ) (call : Asked) (wait : ℕ) (b : Bool) → since_of (asked_if b target call wait s) ≡ since_of s
ask_since s target call wait true = refl
ask_since s target call wait false = refl

-- nor does the caller's wish that the session begins anew
anew_since : (s : Session) (b : Bool) → since_of (begun_anew b s) ≡ since_of s
anew_since s true = refl
anew_since s false = refl

-- between the moment by which bytes came last, and the last one that was told, is that from which the quiet time counts
abbrev IsBetween : (last m : ℕ) → Session → Type 0
IsBetween last m s = (last ≤ since_of s) × (since_of s ≤ m)

-- it is so after each call
call_between : (call : Call) (s : Session) (last m : ℕ) → IsBetween last m s → m ≤ moment_of m call → IsBetween (came_at s last call) (moment_of m call) (after call s)
call_between (Steps want now) s last m (a, b) forward =
    let it = step_since want now s in
    let since = it.0 in
    let moment = it.1 in
    done_since (next_of want (at_step want now s)) (at_step want now s) last now (omega (arith, a, b, forward, since)) (omega (arith, since)) (omega (arith, a, b, forward, moment))
    (omega (arith, moment))
call_between (Asks target call wait) s last m (a, b) forward =
    let e = ask_since s target call wait (takes target s) in (omega (arith, a, e), omega (arith, b, e))
call_between (Comes now) s last m (a, b) forward = by_test (is_up s.standing.phase) where
  -- the lemma above, whether there is a connection
  by_test : (up : Bool) → ((if up then now else last) ≤ (met_in up now s.standing).exchange.since) × ((met_in up now s.standing).exchange.since ≤ now)
  by_test true = (omega arith, omega arith)
  by_test false = (omega (arith, a, b, forward), omega (arith, b, forward))
call_between (Hears line) s last m (a, b) forward =
    let e = line_along (λ (t : Session). since_of t ≡ since_of s) (with_standing (sign_on_noted (is_sign_on line)) s) line s.standing.phase (has_begun s.standing.exchange) refl refl refl in
    (omega (arith, a, e), omega (arith, b, e))
call_between (Opens now) s last m (a, b) forward = (omega (arith, a, b, forward), omega (arith, b, forward))
call_between (Closes now) s last m (a, b) forward = (omega (arith, a, b, forward), omega arith)
call_between Restarts s last m (a, b) forward = let e = anew_since s (has_begun s.standing.exchange) in (omega (arith, a, e), omega (arith, b, e))

-- it is so after any calls
calls_between : (calls : List Call) (s : Session) (last m : ℕ) → IsBetween last m s → GoesForward m calls → IsBetween (last_came s last calls) (moment_after m calls) (after_all calls s)
calls_between [] s last m here forward = here
calls_between (call ∷ calls) s last m here (first, rest) =
    calls_between calls (after call s) (came_at s last call) (moment_of m call) (call_between call s last m here first) rest

-- a line feed has the quiet time count from the moment of its step
from_clear : (want : Want) (start : ℕ) (s : Session) → next_of want (at_step want start s) ≡ next.Clear → IsBetween start start (stepped want start s)
from_clear want start s e =
    let it = step_since want start s in
    let moment = it.1 in
    subst (λ (n : Next). IsBetween start start (done n (at_step want start s))) (sym e) (omega (arith, moment), omega (arith, moment))

-- a session that drains, and is ready after a step, was quiet for long enough at that
ready_past : (want : Want) (now : ℕ) (s : Session) → s.standing.phase ≡ phase.Draining → (stepped want now s).standing.phase ≡ phase.Ready
    → is_past s.settings.quiet now (timed now (attended want now s.standing)).exchange ≡ true
ready_past want now s drains ready = (and_parts t.listened (is_past s.settings.quiet now t.exchange) (by_test (t.listened && is_past s.settings.quiet now t.exchange) refl)).1 where
  -- the standing at that moment
  t : Standing
  t = timed now (attended want now s.standing)

  -- the phase there
  same : (w : Want) → (timed now (attended w now s.standing)).phase ≡ s.standing.phase
  same w = attended_along (λ (u : Standing). u.phase ≡ s.standing.phase) w now s.standing refl refl

  -- the session once it is known that it drains
  at : Bool → Session
  at b = record s { standing = if b then record t { phase = phase.Ready; exchange = exchange.drained t.moment t.exchange } else t; client = (at_step want now s).client }

  -- the session before what is next is done
  is_at : at_step want now s ≡ at (t.listened && is_past s.settings.quiet now t.exchange)
  is_at = ap (λ (p : Phase). let u : Session = record s { standing = quieted_in p s.settings t; client = (at_step want now s).client } in u) (same want ∙ drains)

  -- one that still drains isn't ready after the step
  still : (p : Phase) → p ≡ phase.Draining → (w : Want) (u : Session) → u.standing.phase ≡ p → (done (next_in p w u) u).standing.phase ≡ phase.Ready → phase.Draining ≡ phase.Ready
  still phase.Draining e w u f ready = sym f ∙ ready
  still _ e w u f ready = cc

  -- the lemma above, by both tests
  by_test : (b : Bool) → (t.listened && is_past s.settings.quiet now t.exchange) ≡ b → b ≡ true
  by_test true e = refl
  by_test false e =
      let u = at_step want now s in
      let f : u.standing.phase ≡ phase.Draining = ap (λ (v : Session). v.standing.phase) (is_at ∙ ap at e) ∙ same want ∙ drains in
      let g : phase.Draining ≡ phase.Ready = still u.standing.phase f (wanted_of want (all_of u)) u refl ready in cc

-- the law: a connection is drained for long enough
pub drained_for_long : ConnectionsAreDrained
drained_for_long s want other start now calls clears forward later drains ready =
    let u = after_all calls (stepped want start s) in
    let (low, high) = calls_between calls (stepped want start s) start start (from_clear want start s clears) forward in
    let past = ready_past other now u drains ready in
    let same : (timed now (attended other now u.standing)).exchange.since ≡ min (since_of u) now = ap (λ (n : ℕ). min n now) (attended_since other now u.standing) in
    let enough : u.settings.quiet ≤ now - (timed now (attended other now u.standing)).exchange.since = grind (arith, nat_tests, past) in
    omega (arith, low, high, later, same, enough)
