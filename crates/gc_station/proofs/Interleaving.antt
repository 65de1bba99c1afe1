-- What had its turn is what was kept and what was left out, each in order (`Interleave`): one list grows with each command that
-- had its turn, and so does one of the other two.
use Rattle.gc_station.proofs.Common.{Bool, true, false, nat_lt, ◌≡◌, ◌⊎◌, inl, inr, ℕ, zero, suc, ◌+◌, ◌-◌, ◌<◌, ◌≤◌, List, [], ◌∷◌, ◌++◌, length, take, drop, map, refl, sym, ap, ◌∙◌, subst, arith, length-map, length-drop, length-take, nil_from_length, ltb-true, ltb-false, AllByRecursion, Asked, Wanted, Task, Interleave, RunRequest, requests, of_task, all_cycles, commands_reached, IsBefore}
use Rattle.gc_station.proofs.Lists.{all_append, all_on}

-- a list is itself interleaved with nothing
interleave_kept : {A : Type 0} (us : List A) → Interleave us [] us
interleave_kept [] = (refl, refl)
interleave_kept (u ∷ us) = inl (us, refl, interleave_kept us)

-- a list is nothing interleaved with itself
interleave_passed : {A : Type 0} (us : List A) → Interleave [] us us
interleave_passed [] = (refl, refl)
interleave_passed (u ∷ us) = inr (us, refl, interleave_passed us)

-- `Interleave` is preserved if what was kept and what had its turn both grow by the same elements at their ends
pub interleave_more : {A : Type 0} (xs ys zs us : List A) → Interleave xs ys zs → Interleave (xs ++ us) ys (zs ++ us)
interleave_more {A} xs ys [] us h = subst (λ (l : List A). Interleave (l ++ us) ys us) (sym h.0) (subst (λ (l : List A). Interleave us l us) (sym h.1) (interleave_kept us))
interleave_more {A} xs ys (z ∷ zs) us (inl k) = inl (k.0 ++ us, ap (λ (l : List A). l ++ us) k.1, interleave_more k.0 ys zs us k.2)
interleave_more {A} xs ys (z ∷ zs) us (inr k) = inr (k.0, k.1, interleave_more xs k.0 zs us k.2)

-- `Interleave` is preserved if what was left out and what had its turn both grow by the same elements at their ends
pub interleave_past : {A : Type 0} (xs ys zs us : List A) → Interleave xs ys zs → Interleave xs (ys ++ us) (zs ++ us)
interleave_past {A} xs ys [] us h = subst (λ (l : List A). Interleave xs (l ++ us) us) (sym h.1) (subst (λ (l : List A). Interleave l us us) (sym h.0) (interleave_passed us))
interleave_past {A} xs ys (z ∷ zs) us (inl k) = inl (k.0, k.1, interleave_past k.0 ys zs us k.2)
interleave_past {A} xs ys (z ∷ zs) us (inr k) = inr (k.0 ++ us, ap (λ (l : List A). l ++ us) k.1, interleave_past xs k.0 zs us k.2)

-- what holds of all that had its turn holds of what was left out
pub interleave_all : {A : Type 0} (P : A → Type 0) (xs ys zs : List A) → Interleave xs ys zs → AllByRecursion P zs → AllByRecursion P ys
interleave_all P xs ys [] h all = subst (AllByRecursion P) (sym h.1) tt
interleave_all P xs ys (z ∷ zs) (inl k) all = interleave_all P k.0 ys zs k.2 all.1
interleave_all P xs ys (z ∷ zs) (inr k) all = subst (AllByRecursion P) (sym k.1) (all.0, interleave_all P xs k.0 zs k.2 all.1)

-- the commands after the next `count` ones are the same, counted from the place of the next one or by how many are unsent
pub drop_past : (commands : List Task) (unsent count : ℕ) → unsent ≤ length commands → drop ((length commands - unsent) + count) commands ≡ drop (length commands - (unsent - count)) commands
drop_past commands unsent count within = by_count (nat_lt unsent count) refl where
  -- the lemma above, by whether fewer than `count` are unsent (`true`): then both lists are empty
  by_count : (b : Bool) → nat_lt unsent count ≡ b → drop ((length commands - unsent) + count) commands ≡ drop (length commands - (unsent - count)) commands
  by_count true e =
      let more = ltb-true unsent count e in
      let x = length-drop ((length commands - unsent) + count) commands in
      let y = length-drop (length commands - (unsent - count)) commands in
      nil_from_length (drop ((length commands - unsent) + count) commands) (omega (arith, x, more, within))
      ∙ sym (nil_from_length (drop (length commands - (unsent - count)) commands) (omega (arith, y, more)))
  by_count false e = let few = ltb-false unsent count e in ap (λ (n : ℕ). drop n commands) (omega (arith, few, within))

-- a request is of this cycle, and of a place below `end`
abbrev IsOfCycleBelow : (cycle end : ℕ) → RunRequest → Type 0
IsOfCycleBelow cycle end r = (r.cycle ≡ cycle) × (r.place < end)

-- the requests of a cycle are of it, and of places below the first one's plus their number
requests_below : (cycle place : ℕ) (asks : List (Wanted Asked)) → AllByRecursion (IsOfCycleBelow cycle (place + length asks)) (requests cycle place asks)
requests_below cycle place [] = tt
requests_below cycle place (a ∷ others) =
    let further = requests_below cycle (place + 1) others in (
      (refl, omega arith),
      all_on (IsOfCycleBelow cycle ((place + 1) + length others)) (IsOfCycleBelow cycle (place + length (a ∷ others))) (requests cycle (place + 1) others)
          (λ r h. let below : r.place < (place + 1) + length others = h.1 in (h.0, omega (arith, below))) further,
    )

-- if the pair (i, m) comes before the pair (j, n), then (j, n) neither comes before (i, m) nor equals it
pub before_not_after : (i j m n : ℕ) → IsBefore i m j n → (j < i) ⊎ ((j ≡ i) × (n ≤ m)) → ⊥
before_not_after i j m n (inl l) (inl k) = omega (arith, l, k)
before_not_after i j m n (inl l) (inr k) = let same : j ≡ i = k.0 in omega (arith, l, same)
before_not_after i j m n (inr l) (inl k) = let same : i ≡ j = l.0 in omega (arith, same, k)
before_not_after i j m n (inr l) (inr k) = let less : m < n = l.1 in let le : n ≤ m = k.1 in omega (arith, less, le)

-- a request is of a place before this one: in an earlier cycle, or in the same one
abbrev pub ComesBefore : (cycle place : ℕ) → RunRequest → Type 0
ComesBefore cycle place r = IsBefore r.cycle r.place cycle place

-- the requests of the first n cycles are before any place of the cycle after them
cycles_before : (setup : ℕ) (commands : List Task) (n place : ℕ) → AllByRecursion (ComesBefore (suc n) place) (all_cycles setup commands n)
cycles_before setup commands zero place = tt
cycles_before setup commands (suc n) place =
    all_append (ComesBefore (suc (suc n)) place) (all_cycles setup commands n) (requests (suc n) setup (map of_task (drop setup commands)))
    (all_on (ComesBefore (suc n) place) (ComesBefore (suc (suc n)) place) (all_cycles setup commands n) later (cycles_before setup commands n place))
    (all_on _ (ComesBefore (suc (suc n)) place) (requests (suc n) setup (map of_task (drop setup commands))) (λ r h. inl (omega (arith, h.0)))
    (requests_below (suc n) setup (map of_task (drop setup commands)))) where
      -- what is before a cycle's place is before the next one's
      later : (r : RunRequest) → ComesBefore (suc n) place r → ComesBefore (suc (suc n)) place r
      later r (inl less) = inl (omega (arith, less))
      later r (inr same) = inl (omega (arith, same.0))

-- all that had its turn is before the next place
pub reached_before : (setup : ℕ) (commands : List Task) (cycle place : ℕ) → setup ≤ place → AllByRecursion (ComesBefore cycle place) (commands_reached setup commands cycle place)
reached_before setup commands zero place low = tt
reached_before setup commands (suc n) place low =
    all_append (ComesBefore (suc n) place) (all_cycles setup commands n) (requests (suc n) setup (map of_task (drop setup (take place commands)))) (cycles_before setup commands n place)
    (all_on _ (ComesBefore (suc n) place) (requests (suc n) setup (map of_task (drop setup (take place commands))))
    (λ r h. inr (h.0, few r.place h.1)) (requests_below (suc n) setup (map of_task (drop setup (take place commands))))) where
      -- a place among those that were taken is below the next one
      few : (p : ℕ) → p < setup + length (map of_task (drop setup (take place commands))) → p < place
      few p less =
          let m = length-map (drop setup (take place commands)) of_task in
          let d = length-drop setup (take place commands) in
          let t = length-take place commands in
          omega (arith, less, m, d, t, low)

-- if the last of what had its turn isn't the last of what was left out, it is the last of what was kept
pub interleave_last : {A : Type 0} (x : A) (xs ys zs : List A) → Interleave xs ys (zs ++ x ∷ []) → ((front : List A) → ys ≡ front ++ x ∷ [] → ⊥) → (front : List A) × (xs ≡ front ++ x ∷ [])
interleave_last x xs ys [] (inl k) not = ([], k.1 ∙ ap (λ l. x ∷ l) k.2.0)
interleave_last x xs ys [] (inr k) not = absurd (not [] (k.1 ∙ ap (λ l. x ∷ l) k.2.1))
interleave_last x xs ys (z ∷ zs) (inl k) not = let it = interleave_last x k.0 ys zs k.2 not in (z ∷ it.0, k.1 ∙ ap (λ l. z ∷ l) it.1)
interleave_last x xs ys (z ∷ zs) (inr k) not = interleave_last x xs k.0 zs k.2 (λ front e. not (z ∷ front) (k.1 ∙ ap (λ l. z ∷ l) e))
