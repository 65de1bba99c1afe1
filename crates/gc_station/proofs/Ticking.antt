-- A clock that goes on from act to act: the moment read last, and the beginning of the cycle. An act is one call on the link,
-- with its result.
use Rattle.gc_station.proofs.Common.{◌≡◌, ℕ, ◌≤◌, List, [], ◌∷◌, ◌++◌, min, refl, ap, ◌∙◌, arith, MatchOption, Act, Told, Gave, Silent, Moment, moment_in, ClockRises, latest, Progress}

-- what an act does to the moment read last, and to the one that counts as the beginning of the cycle: an act that reads a
-- moment sets the former, and bounds the latter by it; any other leaves both
abbrev pub Ticks : Progress → Act → Progress → Type 0
Ticks p act q =
    MatchOption (moment_in act) ((q.moment ≡ p.moment) × (q.began ≡ p.began)) (λ m. (q.moment ≡ m) × (q.began ≡ min p.began m.elapsed))

-- if the clock doesn't go back at a moment, the beginning of the cycle stays, and isn't later than that moment, if it wasn't
-- later than the one read before
pub began_kept_at_moment : (p q : Progress) (m : Moment) → (q.moment ≡ m) × (q.began ≡ min p.began m.elapsed) → p.moment.elapsed ≤ m.elapsed → p.began ≤ p.moment.elapsed
    → (q.began ≡ p.began) × (q.began ≤ q.moment.elapsed)
began_kept_at_moment p q m t rises past =
    let same : q.began ≡ p.began = t.1 ∙ omega (arith, rises, past) in
    let now : q.moment.elapsed ≡ m.elapsed = ap (λ (x : Moment). x.elapsed) t.0 in
    (same, omega (arith, same, now, rises, past))

-- without a moment the beginning of the cycle stays, and isn't later than the moment read last, if it wasn't before
pub began_kept_without_moment : (p q : Progress) → (q.moment ≡ p.moment) × (q.began ≡ p.began) → p.began ≤ p.moment.elapsed → (q.began ≡ p.began) × (q.began ≤ q.moment.elapsed)
began_kept_without_moment p q t past =
    let same = t.1 in
    let now : q.moment.elapsed ≡ p.moment.elapsed = ap (λ (x : Moment). x.elapsed) t.0 in
    (same, omega (arith, same, now, past))

-- if the clock doesn't go back at an act, the beginning of the cycle stays, and isn't later than the moment read last, if it
-- wasn't before the act
pub began_kept : (p q : Progress) (act : Act) → Ticks p act q → ClockRises p.moment.elapsed (act ∷ []) → p.began ≤ p.moment.elapsed → (q.began ≡ p.began) × (q.began ≤ q.moment.elapsed)
began_kept p q (Told m) t rises past = began_kept_at_moment p q m t rises.0 past
began_kept p q (Gave bytes m) t rises past = began_kept_at_moment p q m t rises.0 past
began_kept p q (Silent m) t rises past = began_kept_at_moment p q m t rises.0 past
began_kept p q act t rises past = began_kept_without_moment p q t past

-- if the start of the clock counts as the beginning of the cycle, it does after an act, too
pub began_at_start : (p q : Progress) (act : Act) → Ticks p act q → p.began ≡ 0 → q.began ≡ 0
began_at_start p q (Told m) t e = t.1 ∙ omega (arith, e)
began_at_start p q (Gave bytes m) t e = t.1 ∙ omega (arith, e)
began_at_start p q (Silent m) t e = t.1 ∙ omega (arith, e)
began_at_start p q act t e = t.1 ∙ e

-- if the clock doesn't go back in acts, it doesn't in the acts before the last
pub rises_front : (now : ℕ) (xs : List Act) (act : Act) → ClockRises now (xs ++ act ∷ []) → ClockRises now xs
rises_front now [] act h = tt
rises_front now (Told m ∷ xs) act h = (h.0, h.1, rises_front m.elapsed xs act h.2)
rises_front now (Gave bytes m ∷ xs) act h = (h.0, h.1, rises_front m.elapsed xs act h.2)
rises_front now (Silent m ∷ xs) act h = (h.0, h.1, rises_front m.elapsed xs act h.2)
rises_front now (x ∷ xs) act h = rises_front now xs act h

-- if the clock doesn't go back in acts, it doesn't at the last of them
pub rises_last : (now : ℕ) (xs : List Act) (act : Act) → ClockRises now (xs ++ act ∷ []) → ClockRises (latest now xs) (act ∷ [])
rises_last now [] act h = h
rises_last now (Told m ∷ xs) act h = rises_last m.elapsed xs act h.2
rises_last now (Gave bytes m ∷ xs) act h = rises_last m.elapsed xs act h.2
rises_last now (Silent m ∷ xs) act h = rises_last m.elapsed xs act h.2
rises_last now (x ∷ xs) act h = rises_last now xs act h

-- with one act more, the moment read last is the act's or, if it reads none, the one read last before it
pub latest_more : (now : ℕ) (xs : List Act) (act : Act) → latest now (xs ++ act ∷ []) ≡ latest (latest now xs) (act ∷ [])
latest_more now [] act = refl
latest_more now (x ∷ xs) act = latest_more (latest now (x ∷ [])) xs act

-- the moment after an act is the one read last
pub last_ticks : (p q : Progress) (act : Act) → Ticks p act q → q.moment.elapsed ≡ latest p.moment.elapsed (act ∷ [])
last_ticks p q (Told m) t = ap (λ (x : Moment). x.elapsed) t.0
last_ticks p q (Gave bytes m) t = ap (λ (x : Moment). x.elapsed) t.0
last_ticks p q (Silent m) t = ap (λ (x : Moment). x.elapsed) t.0
last_ticks p q act t = ap (λ (x : Moment). x.elapsed) t.0

-- if the clock doesn't go back in acts, it doesn't in the first of them
pub rises_before : (now : ℕ) (xs ys : List Act) → ClockRises now (xs ++ ys) → ClockRises now xs
rises_before now [] ys h = tt
rises_before now (Told m ∷ xs) ys h = (h.0, h.1, rises_before m.elapsed xs ys h.2)
rises_before now (Gave bytes m ∷ xs) ys h = (h.0, h.1, rises_before m.elapsed xs ys h.2)
rises_before now (Silent m ∷ xs) ys h = (h.0, h.1, rises_before m.elapsed xs ys h.2)
rises_before now (x ∷ xs) ys h = rises_before now xs ys h

-- no moment is past 2^64 - 1
pub latest_most : (now : ℕ) (xs : List Act) → now ≤ 18446744073709551615 → ClockRises now xs → latest now xs ≤ 18446744073709551615
latest_most now [] most h = most
latest_most now (Told m ∷ xs) most h = latest_most m.elapsed xs h.1 h.2
latest_most now (Gave bytes m ∷ xs) most h = latest_most m.elapsed xs h.1 h.2
latest_most now (Silent m ∷ xs) most h = latest_most m.elapsed xs h.1 h.2
latest_most now (x ∷ xs) most h = latest_most now xs most h
