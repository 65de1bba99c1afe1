-- The counts of a session's exchange stay those of a window, whatever the session is told.
use Rattle.geocom_c.proofs.Common.{◌≡◌, ℕ, zero, suc, ◌+◌, ◌≤◌, ◌&&◌, Bool, true, false, List, [], ◌∷◌, length, nat_lt, Option, Some, None, refl, arith, cond_both, ltb-true, length-drop, Asked, ById, fits, heard, hears, hears_line, place_in, settle, settles_at, Pending, WINDOW, Settings, Want, Nothing, Answers, Send, Phase, Standing, ends_with_table, Session, asked, at_step, attended, came, is_up, line_came, line_heard, line_synchronized, met_in, next_of, phase_cleared, quieted_in, sign_on_noted, stepped, timed, with_standing, is_sign_on, AreCounts}
use Rattle.gc_session.specs.declared.exchange.Exchange.{Exchange}
use Rattle.geocom_c.proofs.NextSteps.{each_line, each_next}
use Rattle.gc_session.specs.declared.standing.Phase.TheVariants as phase
use Rattle.gc_session.specs.Exchange as exchange

-- the counts of a session are those of a window
abbrev pub HasCounts : Session → Type 0
HasCounts s = AreCounts s.standing.exchange

-- an exchange with the counts of `x`
counts_stay : (x y : Exchange) → y.behind ≡ x.behind → y.last_ended ≡ x.last_ended → AreCounts x → AreCounts y
counts_stay x y a b c = record {
  behind = omega (arith, a, c.behind);
  ended = omega (arith, b, c.ended);
  few = omega (arith, b, c.few);
}

-- Steps.

attended_counts : (want : Want) (now : ℕ) (t : Standing) → AreCounts t.exchange → AreCounts (attended want now t).exchange
attended_counts Nothing now t c = c
attended_counts Answers now t c = counts_stay t.exchange (attended Answers now t).exchange refl refl c
attended_counts Send now t c = counts_stay t.exchange (attended Send now t).exchange refl refl c

quieted_counts : (p : Phase) (settings : Settings) (t : Standing) → AreCounts t.exchange → AreCounts (quieted_in p settings t).exchange
quieted_counts phase.Down settings t c = c
quieted_counts phase.Pausing settings t c = c
quieted_counts phase.Clearing settings t c = c
quieted_counts phase.Draining settings t c =
    cond_both (t.listened && exchange.is_past settings.quiet t.moment t.exchange) (record t { phase = phase.Ready; exchange = exchange.drained t.moment t.exchange }) t
    (λ (u : Standing). AreCounts u.exchange) (λ _. counts_stay t.exchange (exchange.drained t.moment t.exchange) refl refl c) (λ _. c)
quieted_counts phase.Ready settings t c = c

at_step_counts : (want : Want) (now : ℕ) (s : Session) → HasCounts s → HasCounts (at_step want now s)
at_step_counts want now s c =
    let t = attended want now s.standing in
    quieted_counts t.phase s.settings (timed now t) (counts_stay t.exchange (timed now t).exchange refl refl (attended_counts want now s.standing c))

-- a request counts once more, but no more often than there are places
requested_counts : (now : ℕ) (x : Exchange) → AreCounts x → AreCounts (exchange.request_noted now x)
requested_counts now x c = record {
  behind = cond_both (nat_lt x.behind WINDOW) (x.behind + 1) x.behind (λ n. n ≤ WINDOW) (λ e. omega (arith, ltb-true x.behind WINDOW e)) (λ _. c.behind);
  ended = c.ended;
  few = c.few;
}

null_counts : (now wait : ℕ) (x : Exchange) → AreCounts x → AreCounts (exchange.null_noted now wait x)
null_counts now wait x c = counts_stay (exchange.request_noted now x) (exchange.null_noted now wait x) refl refl (requested_counts now x c)

renewed_counts : (asked : Bool) (x : Exchange) → AreCounts (exchange.renewed asked x)
renewed_counts asked x = record { behind = omega arith; ended = omega arith; few = omega arith }

pub stepped_counts : (want : Want) (now : ℕ) (s : Session) → HasCounts s → HasCounts (stepped want now s)
stepped_counts want now s c =
    let t = at_step want now s in
    let x = t.standing.exchange in
    let kept = at_step_counts want now s c in
    let moment = t.standing.moment in
    each_next (λ (u : Session) lost. HasCounts u) t
    kept
    (counts_stay x (with_standing phase_cleared t).standing.exchange refl refl kept)
    (null_counts moment t.settings.timeout x kept)
    (requested_counts moment x kept)
    (null_counts moment t.settings.timeout (exchange.renewed x.asked x) (renewed_counts x.asked x))
    kept
    (next_of want t)

-- What else happens.

met_counts : (up : Bool) (now : ℕ) (t : Standing) → AreCounts t.exchange → AreCounts (met_in up now t).exchange
met_counts true now t c = counts_stay t.exchange (met_in true now t).exchange refl refl c
met_counts false now t c = counts_stay t.exchange (met_in false now t).exchange refl refl c

pub came_counts : (now : ℕ) (s : Session) → HasCounts s → HasCounts (came now s)
came_counts now s c = met_counts (is_up s.standing.phase) now s.standing c

-- Lines.

settle_short : (k : ℕ) (line : List ℕ) (ps : List (Pending Asked)) → length (settle k line ps) ≤ length ps
settle_short k line [] = omega arith
settle_short zero line (p ∷ ps) = omega arith
settle_short (suc k) line (p ∷ ps) = omega (arith, settle_short k line ps)

settles_short : (c : ById Asked) (line : List ℕ) (k : ℕ) (waits : Bool)
    → (length (settles_at c line k waits).settlements ≤ length c.waiting) × (length (settles_at c line k waits).client.waiting ≤ length c.waiting)
settles_short c line k false = (omega arith, omega arith)
settles_short c line k true = (settle_short k line c.waiting, omega (arith, length-drop (k + 1) c.waiting))

-- a line settles no more than is outstanding, and leaves no more
pub heard_short : (c : ById Asked) (line : List ℕ) (id : Option ℕ)
    → (length (hears c line id).settlements ≤ length c.waiting) × (length (hears c line id).client.waiting ≤ length c.waiting)
heard_short c line None = (omega arith, omega arith)
heard_short c line (Some id) = settles_short c line (place_in c id) (fits c (Some id))

line_heard_counts : (line : List ℕ) (s : Session) → length s.client.waiting ≤ WINDOW → HasCounts s → HasCounts (line_heard line s)
line_heard_counts line s few c =
    let short = heard_short s.client line (heard line) in
    let x = hears_line s.client line in
    record {
      behind = cond_both (ends_with_table x.settlements) (length x.client.waiting) s.standing.exchange.behind (λ n. n ≤ WINDOW) (λ _. omega (arith, short.1, few)) (λ _. c.behind);
      ended = cond_both (nat_lt 0 (length x.settlements)) (length x.settlements) s.standing.exchange.last_ended (λ n. 1 ≤ n)
          (λ e. omega (arith, ltb-true 0 (length x.settlements) e)) (λ _. c.ended);
      few = cond_both (nat_lt 0 (length x.settlements)) (length x.settlements) s.standing.exchange.last_ended (λ n. n ≤ WINDOW)
          (λ _. omega (arith, short.0, few)) (λ _. c.few);
    }

pub line_came_counts : (line : List ℕ) (s : Session) → length s.client.waiting ≤ WINDOW → HasCounts s → HasCounts (line_came line s)
line_came_counts line s few c =
    let noted = with_standing (sign_on_noted (is_sign_on line)) s in
    let kept = counts_stay s.standing.exchange noted.standing.exchange refl refl c in
    each_line (λ (t : Session) settled. HasCounts t) line noted kept (line_heard_counts line noted few kept)
    (counts_stay noted.standing.exchange (line_synchronized line noted).standing.exchange refl refl kept) s.standing.phase (exchange.has_begun s.standing.exchange)
