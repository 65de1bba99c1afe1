-- Damage is local while each undamaged line is fresh when it comes.
use Rattle.gc_theorems.proofs.Common.{◌≡◌, ℕ, zero, suc, ◌+◌, ◌%◌, ◌<◌, ◌≤◌, Bool, true, false, List, [], ◌∷◌, ◌++◌, length, map, Option, Some, None, refl, sym, ◌∙◌, ap, subst, arith, length-append, length-drop, ltb, eqb, slice_get, ⊤, length-map, length_push, ltb-true, eqb-false, same_Some, none-some, WINDOW, IDS, Pending, pending_of, expired, settled_by_line, settle, place, send_unless_full, settles_at, hears, Account, Event, Origin, Of, Damaged, IsFresh, AllComeFresh, ComesFresh, account, account_after, account_expired, account_heard, account_sent, account_settled, counted, ended_by, ended_by_damage, one_if_damaged, opened}
use Rattle.gc_theorems.specs.Damage.{Send, Expire, Hear, IsLocal}

-- Where a request is outstanding at place k, settling through place k settles k + 1 requests.
pub length-settle : {Q : Type 0} (k : ℕ) (line : List ℕ) (ps : List (Pending Q)) → k < length ps → length (settle k line ps) ≡ k + 1
length-settle k line [] h = omega arith
length-settle zero line (p ∷ ps) h = refl
length-settle (suc k) line (p ∷ ps) h = ap suc (length-settle k line ps (omega arith)) ∙ omega arith

-- if a request is outstanding with the id of a fresh line, it is the one that the line was made for
pub fresh_place : (next waiting count sent number k : ℕ) → next ≡ sent % IDS → count + waiting ≡ sent → waiting ≤ WINDOW → number < sent → sent ≤ number + IDS
    → k ≡ place next waiting (number % IDS) → k < waiting → count + k ≡ number
fresh_place next waiting count sent number k h1 h2 h3 h4 h5 h6 h7 = omega (arith, h1, h2, h3, h4, h5, h6, h7)

-- the count of damaged lines is one more if the line is damaged
pub counted_is : (origin : Origin) (damaged : ℕ) → counted origin damaged ≡ damaged + one_if_damaged (Some origin)
counted_is (Of number) damaged = omega arith
counted_is Damaged damaged = refl

-- Own or damaged.

-- request m, if an undamaged line ended it, was ended by a line made for it
abbrev pub IsOwnOrDamaged : (m : ℕ) → Option Origin → Type 0
IsOwnOrDamaged m None = ⊤
IsOwnOrDamaged m (Some (Of number)) = number ≡ m
IsOwnOrDamaged m (Some Damaged) = ⊤

-- the same of each of these requests, the first of which is request m
abbrev pub AreOwnOrDamaged : (m : ℕ) → List (Option Origin) → Type 0
AreOwnOrDamaged m [] = ⊤
AreOwnOrDamaged m (o ∷ os) = IsOwnOrDamaged m o × AreOwnOrDamaged (m + 1) os

-- the same of requests and of those after them
pub own_append : (m : ℕ) (os more : List (Option Origin)) → AreOwnOrDamaged m os → AreOwnOrDamaged (m + length os) more → AreOwnOrDamaged m (os ++ more)
own_append m [] more h g = let e : m + 0 ≡ m = omega arith in subst (λ i. AreOwnOrDamaged i more) e g
own_append m (o ∷ os) more h g =
    let e : m + suc (length os) ≡ m + 1 + length os = omega arith in
    (h.0, own_append (m + 1) os more h.1 (subst (λ i. AreOwnOrDamaged i more) e g))

-- the request at a place among them
pub own_get : (m : ℕ) (os : List (Option Origin)) (i number : ℕ) → AreOwnOrDamaged m os → slice_get os i ≡ Some (Some (Of number)) → number ≡ m + i
own_get m [] i number h e = absurd (none-some _ e)
own_get m (o ∷ os) zero number h e =
    let own : number ≡ m = subst (λ x. IsOwnOrDamaged m x) (same_Some _ _ e) h.0 in
    omega (arith, own)
own_get m (o ∷ os) (suc i) number h e =
    let own : number ≡ m + 1 + i = own_get (m + 1) os i number h.1 e in
    omega (arith, own)

-- the requests ended by damaged lines, of requests and of those after them
pub damaged_append : (os more : List (Option Origin)) → ended_by_damage (os ++ more) ≡ ended_by_damage os + ended_by_damage more
damaged_append [] more = omega arith
damaged_append (o ∷ os) more = let e = damaged_append os more in omega (arith, e)

module _ {Q : Type 0} where
  -- the origins by which the first k of these requests are lost, and the next one is ended by a line of this origin
  abbrev pub ends_of : (k : ℕ) → Origin → (line : List ℕ) → List (Pending Q) → List (Option Origin)
  ends_of k origin line ps = map (λ s. ended_by origin s.outcome) (settle k line ps)

  -- a request that a line settled was ended by it, whether it had timed out or not
  pub ended_by_line : (origin : Origin) (line : List ℕ) (p : Pending Q) (given_up : Bool) → p.given_up ≡ given_up → ended_by origin (settled_by_line p line).outcome ≡ Some origin
  ended_by_line origin line p true e = ap (λ b. ended_by origin (settled_by_line (record p { given_up = b }) line).outcome) e
  ended_by_line origin line p false e = ap (λ b. ended_by origin (settled_by_line (record p { given_up = b }) line).outcome) e

  -- what a line settles, from request m on and through place k, is own or damaged, if the line was made for request m + k, or is
  -- damaged
  pub own_settled : (m k : ℕ) (origin : Origin) (line : List ℕ) (ps : List (Pending Q)) → IsOwnOrDamaged (m + k) (Some origin) → AreOwnOrDamaged m (ends_of k origin line ps)
  own_settled m k origin line [] h = tt
  own_settled m zero origin line (p ∷ ps) h =
      let e : m + 0 ≡ m = omega arith in
      (subst (λ o. IsOwnOrDamaged m o) (sym (ended_by_line origin line p p.given_up refl)) (subst (λ i. IsOwnOrDamaged i (Some origin)) e h), tt)
  own_settled m (suc k) origin line (p ∷ ps) h =
      let e : m + suc k ≡ m + 1 + k = omega arith in
      (tt, own_settled (m + 1) k origin line ps (subst (λ i. IsOwnOrDamaged i (Some origin)) e h))

  -- one line ends at most one request by damage: none if it isn't damaged
  pub damaged_settled : (k : ℕ) (origin : Origin) (line : List ℕ) (ps : List (Pending Q)) → ended_by_damage (ends_of k origin line ps) ≤ one_if_damaged (Some origin)
  damaged_settled k origin line [] = omega arith
  damaged_settled zero origin line (p ∷ ps) = let e = ap one_if_damaged (ended_by_line origin line p p.given_up refl) in omega (arith, e)
  damaged_settled (suc k) origin line (p ∷ ps) = let e = damaged_settled k origin line ps in omega (arith, e)

  -- The invariant of an account.
  pub record Sound (width : ℕ) (a : Account Q) : Type 0 where
    pub ids : a.client.next ≡ a.sent % IDS
    pub all : length a.settled + length a.client.waiting ≡ a.sent
    pub few : length a.client.waiting ≤ width
    pub own : AreOwnOrDamaged 0 a.settled
    pub damage : ended_by_damage a.settled ≤ a.damaged

  -- a send keeps it
  pub sound_sent : (width : ℕ) (a : Account Q) (target : ℕ) (call : Q) (deadline : ℕ) (full : Bool) → eqb (length a.client.waiting) width ≡ full → Sound width a
      → Sound width (account_sent a (send_unless_full a.client target call deadline full))
  sound_sent width a target call deadline true e h = h
  sound_sent width a target call deadline false e h =
      let p : Pending Q = pending_of target call deadline in
      let n = length_push a.client.waiting p in
      let ne : (length a.client.waiting ≡ width) → ⊥ = eqb-false _ _ e in
      record {
        ids = omega (arith, h.ids);
        all = omega (arith, h.all, n);
        few = omega (arith, h.few, n, ne);
        own = h.own;
        damage = h.damage;
      }

  -- a line that settles nothing keeps it
  pub sound_stray : (width : ℕ) (a : Account Q) (origin : Origin) → Sound width a → Sound width (account_settled a origin (record { settlements = []; client = a.client }))
  sound_stray width a origin h =
      let n = length-append a.settled [] in
      let d = damaged_append a.settled [] in
      let c = counted_is origin a.damaged in
      record { ids = h.ids; all = omega (arith, h.all, n); few = h.few; own = own_append 0 a.settled [] h.own tt; damage = omega (arith, h.damage, d, c) }

  -- a line that settles through place k (`b` true), or nothing, keeps it, if it was made for the request at that place, or is damaged
  pub sound_settled : (width : ℕ) (a : Account Q) (origin : Origin) (line : List ℕ) (k : ℕ) (b : Bool) → ltb k (length a.client.waiting) ≡ b
      → (k < length a.client.waiting → IsOwnOrDamaged (length a.settled + k) (Some origin)) → Sound width a → Sound width (account_settled a origin (settles_at a.client line k b))
  sound_settled width a origin line k false e f h = sound_stray width a origin h
  sound_settled width a origin line k true e f h =
      let below : k < length a.client.waiting = ltb-true _ _ e in
      let ends = ends_of k origin line a.client.waiting in
      let n = length-append a.settled ends in
      let n2 = length-map (settle k line a.client.waiting) (λ s. ended_by origin s.outcome) in
      let n3 = length-settle k line a.client.waiting below in
      let n4 = length-drop (k + 1) a.client.waiting in
      let d = damaged_append a.settled ends in
      let d2 = damaged_settled k origin line a.client.waiting in
      let c = counted_is origin a.damaged in
      let z : length a.settled + k ≡ 0 + length a.settled + k = omega arith in
      record {
        ids = h.ids;
        all = omega (arith, h.all, n, n2, n3, n4, below);
        few = omega (arith, h.few, n4);
        own =
            own_append 0 a.settled ends h.own
            (own_settled (0 + length a.settled) k origin line a.client.waiting (subst (λ i. IsOwnOrDamaged i (Some origin)) z (f below)));
        damage = omega (arith, h.damage, d, d2, c);
      }

  -- a line with this id, or without one, keeps it, if it was made for the request that is outstanding with that id, or is damaged
  pub sound_heard : (width : ℕ) (a : Account Q) (origin : Origin) (line : List ℕ) (o : Option ℕ)
      → ((id : ℕ) → o ≡ Some id → place a.client.next (length a.client.waiting) id < length a.client.waiting
      → IsOwnOrDamaged (length a.settled + place a.client.next (length a.client.waiting) id) (Some origin))
      → Sound width a → Sound width (account_settled a origin (hears a.client line o))
  sound_heard width a origin line None f h = sound_stray width a origin h
  sound_heard width a origin line (Some id) f h =
      let k = place a.client.next (length a.client.waiting) id in
      sound_settled width a origin line k (ltb k (length a.client.waiting)) refl (λ below. f id refl below) h

  -- a moment keeps it
  pub sound_expired : (width : ℕ) (a : Account Q) (now : ℕ) → Sound width a → Sound width (account_expired a now)
  sound_expired width a now h =
      let n = length-map a.client.waiting (expired now) in
      record { ids = h.ids; all = omega (arith, h.all, n); few = omega (arith, h.few, n); own = h.own; damage = h.damage }

  module _ (heard : List ℕ → Option ℕ) (width : ℕ) (narrow : width ≤ WINDOW) where
    -- an undamaged line that is fresh keeps it
    pub sound_fresh : (a : Account Q) (number : ℕ) (line : List ℕ) → IsFresh heard a.sent number line → Sound width a → Sound width (account_heard heard width a (Of number) line)
    sound_fresh a number line p h =
        sound_heard width a (Of number) line (heard line) (λ id e below.
        let same : id ≡ number % IDS = same_Some _ _ (sym e ∙ p.id) in
        sym (fresh_place a.client.next (length a.client.waiting) (length a.settled) a.sent number (place a.client.next (length a.client.waiting) id)
        h.ids h.all (omega (arith, h.few, narrow)) p.was_sent p.near (ap (place a.client.next (length a.client.waiting)) same) below)) h

    -- a damaged line keeps it
    pub sound_damaged : (a : Account Q) (line : List ℕ) → Sound width a → Sound width (account_heard heard width a Damaged line)
    sound_damaged a line h = sound_heard width a Damaged line (heard line) (λ id e below. tt) h

    -- each event keeps it
    sound_event : (a : Account Q) (e : Event Q) → ComesFresh heard width a e → Sound width a → Sound width (account_after heard width a e)
    sound_event a (Send target call deadline) p h = sound_sent width a target call deadline (eqb (length a.client.waiting) width) refl h
    sound_event a (Expire now) p h = sound_expired width a now h
    sound_event a (Hear (Of number) line) p h = sound_fresh a number line p h
    sound_event a (Hear Damaged line) p h = sound_damaged a line h

    -- events keep it
    pub sound_events : (events : List (Event Q)) (a : Account Q) → AllComeFresh heard width a events → Sound width a → Sound width (account heard width a events)
    sound_events [] a p h = h
    sound_events (e ∷ events) a p h = sound_events events (account_after heard width a e) p.1 (sound_event a e p.0 h)

  -- it holds at the start
  pub sound_opened : (width : ℕ) → Sound width opened
  sound_opened width = record { ids = refl; all = refl; few = omega arith; own = tt; damage = omega arith }

  -- it says that damage is local
  pub local_if_sound : (width : ℕ) (a : Account Q) → Sound width a → IsLocal a
  local_if_sound width a h =
      record {
        own = λ m number e. let n : number ≡ 0 + m = own_get 0 a.settled m number h.own e in omega (arith, n);
        few = h.damage;
      }

  -- damage is local while each undamaged line is fresh when it comes
  pub local_while_fresh : (heard : List ℕ → Option ℕ) (width : ℕ) → width ≤ WINDOW → (events : List (Event Q)) → AllComeFresh heard width opened events
      → IsLocal (account heard width opened events)
  local_while_fresh heard width narrow events p = local_if_sound width _ (sound_events heard width narrow events opened p (sound_opened width))
