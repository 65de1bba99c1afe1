-- An answer that is booked is a line that was made for the very request that it settles. Replies and answers are *backed* where
-- each is among the replies made, with the number of its request. Settlements from number n on are those of the requests n, n + 1
-- and so on.
use Rattle.gc_world.proofs.Common.{◌≡◌, ℕ, zero, suc, ◌+◌, ◌-◌, ◌≤◌, inl, inr, Bool, true, false, List, [], ◌∷◌, ◌++◌, length, map, drop, Some, refl, sym, ap, subst, arith, ltb, ◌⊎◌, AllByRecursion, slice_get, ltb-false, none-some, same_Some, all_append, every_weaker as all_on, Pending, Outcome, Answered, Late, Lost, Settlement, lost, settled_by_line, settle, Handed, started, with_settled, ByNumber, number_reply, by_numbers, numbers_open, IsExchange}
use Rattle.gc_world.specs.Worlds.{Request, Numbered, Ends, Step, World, Wire, replied, run}
use Rattle.gc_world.proofs.Rows.{each_without, each_doubled}
use Rattle.gc_world.proofs.Sound.{Sound, keeps, sound_open}
use Rattle.gc_world.proofs.Stable.{IsStable, stable_all}

-- a list has this element. It is std's `Contains` by recursion on the list, because proofs split lists at their front; `Contains`
-- speaks of places
abbrev pub Has : {A : Type 0} → A → List A → Type 0
Has a [] = ⊥
Has a (x ∷ xs) = (x ≡ a) ⊎ Has a xs

-- an element of a list is one of the list with others after it, too
pub has_more : {A : Type 0} (a : A) (xs ys : List A) → Has a xs → Has a (xs ++ ys)
has_more a [] ys h = absurd h
has_more a (x ∷ xs) ys (inl e) = inl e
has_more a (x ∷ xs) ys (inr h) = inr (has_more a xs ys h)

-- a list has the element that was appended
pub has_push : {A : Type 0} (a : A) (xs : List A) → Has a (xs ++ a ∷ [])
has_push a [] = inl refl
has_push a (x ∷ xs) = inr (has_push a xs)

-- an element that a list has is at some place of the list
pub has_at : {A : Type 0} (a : A) (xs : List A) → Has a xs → (j : ℕ) × (slice_get xs j ≡ Some a)
has_at a [] h = absurd h
has_at a (x ∷ xs) (inl e) = (0, ap Some e)
has_at a (x ∷ xs) (inr h) = (suc (has_at a xs h).0, (has_at a xs h).1)

-- if this outcome of request n is an answer, its line was made for request n; of the other outcomes this says nothing
abbrev pub IsMade : List (Numbered (List ℕ)) → ℕ → Outcome → Type 0
IsMade made n (Answered line) = Has (record { number = n; line = line }) made
IsMade made n Late = Unit {0}
IsMade made n Lost = Unit {0}

-- each answer of these settlements, from number n on, was made for its request
abbrev pub AllMade : {Q : Type 0} → List (Numbered (List ℕ)) → ℕ → List (Settlement Q) → Type 0
AllMade made n [] = Unit {0}
AllMade made n (s ∷ ss) = IsMade made n s.outcome × AllMade made (n + 1) ss

-- where each answer of settlements from number n on was made for its request, the one at place m among them was made for request
-- n + m
pub made_at : {Q : Type 0} (made : List (Numbered (List ℕ))) (n : ℕ) (settled : List (Settlement Q)) (m : ℕ) (s : Settlement Q)
    → AllMade made n settled → slice_get settled m ≡ Some s
    → IsMade made (n + m) s.outcome
made_at {Q} made n [] m s h e = absurd (none-some s e)
made_at {Q} made n (x ∷ xs) zero s h e =
    let same : n ≡ n + 0 = omega arith in
    subst (λ k. IsMade made k s.outcome) same (subst (λ (y : Settlement Q). IsMade made n y.outcome) (same_Some x s e) h.0)
made_at {Q} made n (x ∷ xs) (suc m) s h e =
    let same : n + 1 + m ≡ n + suc m = omega arith in
    subst (λ k. IsMade made k s.outcome) same (made_at made (n + 1) xs m s h.1 e)

-- where each answer of the settlements was made for its request, and settlement m is an answer with this line, the line was made
-- for request m
pub answer_made : {Q : Type 0} (made : List (Numbered (List ℕ))) (settled : List (Settlement Q)) (m : ℕ) (s : Settlement Q) (line : List ℕ) → AllMade made 0 settled
    → slice_get settled m ≡ Some s → s.outcome ≡ Answered line → Has (record { number = m; line = line }) made
answer_made made settled m s line h found answered =
    let same : 0 + m ≡ m = omega arith in
    subst (λ k. Has (record { number = k; line = line }) made) same (subst (IsMade made (0 + m)) answered (made_at made 0 settled m s h found))

-- an answer that was made for a request stays so when more replies are made
made_more : (made more : List (Numbered (List ℕ))) (n : ℕ) (o : Outcome) → IsMade made n o → IsMade (made ++ more) n o
made_more made more n (Answered line) h = has_more _ made more h
made_more made more n Late h = tt
made_more made more n Lost h = tt

-- answers that were made for their requests stay so when more replies are made
all_made_more : {Q : Type 0} (made more : List (Numbered (List ℕ))) (n : ℕ) (ss : List (Settlement Q)) → AllMade made n ss → AllMade (made ++ more) n ss
all_made_more made more n [] h = tt
all_made_more made more n (s ∷ ss) h = (made_more made more n s.outcome h.0, all_made_more made more (n + 1) ss h.1)

-- where the answers of the settlements ss from number n on, and those of ts from number m on, the number after the last of ss,
-- were made for their requests, those of ss followed by ts were
all_made_append : {Q : Type 0} (made : List (Numbered (List ℕ))) (n m : ℕ) (ss ts : List (Settlement Q)) → n + length ss ≡ m → AllMade made n ss
    → AllMade made m ts → AllMade made n (ss ++ ts)
all_made_append made n m [] ts e h g = let e' : m ≡ n = omega arith in subst (λ k. AllMade made k ts) e' g
all_made_append made n m (s ∷ ss) ts e h g = (h.0, all_made_append made (n + 1) m ss ts (omega arith) h.1 g)

-- among settlements as lost there is no answer, so each answer among them was made for its request
all_made_lost : {Q : Type 0} (made : List (Numbered (List ℕ))) (n : ℕ) (ps : List (Pending Q)) → AllMade made n (map lost ps)
all_made_lost made n [] = tt
all_made_lost made n (p ∷ ps) = (tt, all_made_lost made (n + 1) ps)

-- where a reply with this line was made for request n, settling a request p by the line (`settled_by_line`) has the outcome late,
-- or an answer that was made for request n (`IsMade`)
line_is_made : {Q : Type 0} (made : List (Numbered (List ℕ))) (n : ℕ) (line : List ℕ) (p : Pending Q) (given_up : Bool) → p.given_up ≡ given_up
    → Has (record { number = n; line = line }) made → IsMade made n (settled_by_line p line).outcome
line_is_made made n line p true e h = subst (λ b. IsMade made n (settled_by_line (record p { given_up = b }) line).outcome) (sym e) tt
line_is_made made n line p false e h = subst (λ b. IsMade made n (settled_by_line (record p { given_up = b }) line).outcome) (sym e) h

-- where a reply with this line was made for request m, and n + k is m, each answer of the settlements `settle k line ps` from
-- number n on was made for its request
all_made_settle : {Q : Type 0} (made : List (Numbered (List ℕ))) (n m k : ℕ) (line : List ℕ) (ps : List (Pending Q)) → n + k ≡ m
    → Has (record { number = m; line = line }) made
    → AllMade made n (settle k line ps)
all_made_settle made n m k line [] e h = tt
all_made_settle made n m zero line (p ∷ ps) e h =
    let e' : m ≡ n = omega arith in
    (line_is_made made n line p p.given_up refl (subst (λ i. Has (record { number = i; line = line }) made) e' h), tt)
all_made_settle made n m (suc k) line (p ∷ ps) e h = (tt, all_made_settle made (n + 1) m k line ps (omega arith) h)

-- each reply in flight and each answer that was booked was made for its request
pub record IsBacked {Q : Type 0} (made down : List (Numbered (List ℕ))) (settled : List (Settlement Q)) : Type 0 where
  pub in_flight : AllByRecursion (λ x. Has x made) down
  pub booked : AllMade made 0 settled

module _ {Q State : Type 0} (width : ℕ) (ends : Ends Q State) (Good : State → Type 0) where
  -- the world is sound (`Sound`), and each reply in flight and each answer was made for its request (`IsBacked`)
  pub record Backed (w : World Q (ByNumber Q) State) : Type 0 where
    pub sound : Sound width ends Good w
    pub backed : IsBacked w.wire.made w.wire.down w.wire.settled

  -- an instrument's reply keeps the replies and answers backed
  backed_answer : (w : Wire Q State) (n : ℕ) (rest : List (Numbered (Request Q))) (hd : Handed State) → IsBacked w.made w.down w.settled
      → (let v = replied w n rest hd in IsBacked v.made v.down v.settled)
  backed_answer w n rest hd h =
      let x : Numbered (List ℕ) = record { number = n; line = hd.reply } in
      record {
        in_flight =
            all_append _ w.down _
            (all_on (λ y. Has y w.made) (λ y. Has y (w.made ++ x ∷ [])) w.down (λ y p. has_more y w.made (x ∷ []) p) h.in_flight)
            (has_push x w.made, tt);
        booked = all_made_more w.made _ 0 w.settled h.booked;
      }

  -- where the client counts as many settled requests as there are settlements, delivering the front reply x, whether its request
  -- is settled already (`old` true) or not, keeps the replies and answers backed
  backed_reply : (w : World Q (ByNumber Q) State) (x : Numbered (List ℕ)) (rest : List (Numbered (List ℕ))) (old : Bool) → ltb x.number w.client.count ≡ old
      → w.wire.down ≡ x ∷ rest → length w.wire.settled ≡ w.client.count → IsBacked w.wire.made w.wire.down w.wire.settled
      → IsBacked w.wire.made rest (w.wire.settled ++ (number_reply w.client x old).settlements)
  backed_reply w x rest true t e s h =
      let g = subst (λ q. AllByRecursion (λ y. Has y w.wire.made) q) e h.in_flight in
      record { in_flight = g.1; booked = all_made_append w.wire.made 0 w.client.count w.wire.settled [] (omega (arith, s)) h.booked tt }
  backed_reply w x rest false t e s h =
      let g = subst (λ q. AllByRecursion (λ y. Has y w.wire.made) q) e h.in_flight in
      let ge : w.client.count ≤ x.number = ltb-false _ _ t in
      record {
        in_flight = g.1;
        booked =
            all_made_append w.wire.made 0 w.client.count w.wire.settled _ (omega (arith, s)) h.booked
            (all_made_settle w.wire.made w.client.count x.number (x.number - w.client.count) x.line (drop w.client.count w.client.requests) (omega (arith, ge)) g.0);
      }

  -- where the client counts as many settled requests as there are settlements, settling all that wait as lost keeps the replies
  -- and answers backed
  backed_lost : (w : World Q (ByNumber Q) State) → length w.wire.settled ≡ w.client.count → IsBacked w.wire.made w.wire.down w.wire.settled
      → IsBacked w.wire.made w.wire.down (w.wire.settled ++ map lost (drop w.client.count w.client.requests))
  backed_lost w s h =
      record {
        in_flight = h.in_flight;
        booked = all_made_append w.wire.made 0 w.client.count w.wire.settled _ (omega (arith, s)) h.booked
            (all_made_lost w.wire.made w.client.count (drop w.client.count w.client.requests));
      }

  -- where the client counts as many settled requests as there are settlements, a restart of the client, with one of the
  -- instrument (b true) or without, keeps the replies and answers backed
  backed_restart : (w : World Q (ByNumber Q) State) (b : Bool) → length w.wire.settled ≡ w.client.count → IsBacked w.wire.made w.wire.down w.wire.settled
      → (let v = (with_settled (started ends w.wire b) ((by_numbers width).restart w.client)).wire in IsBacked v.made v.down v.settled)
  backed_restart w false s h = backed_lost w s h
  backed_restart w true s h = backed_lost w s h

  -- each elementary change keeps a world backed
  keeps_backed : (written : ℕ → Q → List ℕ) → IsExchange ends Good → IsStable written ends (by_numbers width) Backed
  keeps_backed written ex =
      let k = keeps width ends Good written ex in
      record {
        idles = λ w h. record { sound = k.idles w h.sound; backed = h.backed };
        refuses = λ w h. record { sound = k.refuses w h.sound; backed = h.backed };
        sends = λ w target call deadline x e h. record { sound = k.sends w target call deadline x e h.sound; backed = h.backed };
        answers = λ w x rest q h. record { sound = k.answers w x rest q h.sound; backed = backed_answer w.wire x.number rest (ends.handed w.wire.state x.line.id x.line.call) h.backed };
        loses_up = λ w n h. record { sound = k.loses_up w n h.sound; backed = h.backed };
        repeats_up = λ w n h. record { sound = k.repeats_up w n h.sound; backed = h.backed };
        loses_down = λ w n h. record { sound = k.loses_down w n h.sound; backed = record { in_flight = each_without _ n w.wire.down h.backed.in_flight; booked = h.backed.booked } };
        repeats_down = λ w n h. record { sound = k.repeats_down w n h.sound; backed = record { in_flight = each_doubled _ n w.wire.down h.backed.in_flight; booked = h.backed.booked } };
        hears = λ w x rest q h. record { sound = k.hears w x rest q h.sound; backed = backed_reply w x rest (ltb x.number w.client.count) refl q h.sound.booked h.backed };
        expires = λ w now h. record { sound = k.expires w now h.sound; backed = h.backed };
        restarts = λ w u d h. record { sound = k.restarts w u d h.sound; backed = backed_restart w ends.joint h.sound.booked h.backed };
        starts = λ w u d h. record { sound = k.starts w u d h.sound; backed = h.backed };
      }

  -- the run by numbers from a good state ends in a backed world
  pub backed_at : (written : ℕ → Q → List ℕ) → IsExchange ends Good → (es : List (Step Q)) (state : State) → Good state
      → Backed (run written ends (by_numbers width) es (numbers_open state))
  backed_at written ex es state g = stable_all written ends (by_numbers width) Backed (keeps_backed written ex) es (numbers_open state)
      (record { sound = sound_open width ends Good state g; backed = record { in_flight = tt; booked = tt } })
