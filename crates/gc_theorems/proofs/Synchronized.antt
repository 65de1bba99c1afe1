-- After a synchronization with at most five damaged answers no old line is left: once a null procedure is answered by its own reply, no old
-- line is in flight; and of the word's ids at most two are answered by old lines.
use Rattle.gc_theorems.proofs.Common.{◌≡◌, ℕ, zero, suc, ◌+◌, ◌%◌, ◌≤◌, ◌⊎◌, inl, inr, Bool, true, false, List, [], ◌∷◌, ◌++◌, Some, None, refl, sym, ◌∙◌, subst, arith, nat_eq, ⊤, AllByRecursion, every_append, eqb-true, WINDOW, IDS, is_answered, left_by, left_when, the_word, AreOld, NoneIsOld, Sync, SyncLine, SyncStep, Ask, null_line, sync, sync_after, sync_asked, sync_delivered, sync_over}
use Rattle.std.specs.Prelude.{if◌then◌else◌}
use Rattle.gc_theorems.specs.OneQueue.{without, doubled}
use Rattle.gc_theorems.specs.ClientSynchronizing.{Deliver, Damage, Lose, Repeat, synchronized}
use Rattle.gc_theorems.proofs.Orders.{each_doubled, each_without}
use Rattle.gc_theorems.proofs.Word.{AreAnsweredFalsely, six_at_least}

-- old lines first, whose numbers never fall, from `low` on, and are at most `high`, and then lines of this synchronization
abbrev OldFirst : (low high : ℕ) → List SyncLine → Type 0
OldFirst low high [] = ⊤
OldFirst low high (x ∷ xs) = (AllByRecursion (λ y. y.old ≡ None) (x ∷ xs)) ⊎ ((n : ℕ) × (x.old ≡ Some n) × (low ≤ n) × (n ≤ high) × (x.id ≡ n % IDS) × OldFirst n high xs)

-- also if no line is old
first_none : (low high : ℕ) (xs : List SyncLine) → AllByRecursion (λ y. y.old ≡ None) xs → OldFirst low high xs
first_none low high [] h = tt
first_none low high (x ∷ xs) h = inl h

-- from a lower number on
first_lower : (low more high : ℕ) (xs : List SyncLine) → low ≤ more → OldFirst more high xs → OldFirst low high xs
first_lower low more high [] le h = tt
first_lower low more high (x ∷ xs) le (inl h) = inl h
first_lower low more high (x ∷ xs) le (inr h) = let e = h.2 in inr (h.0, h.1, omega (arith, le, e), h.3, h.4, h.5)

-- if one is lost
first_without : (low high k : ℕ) (xs : List SyncLine) → OldFirst low high xs → OldFirst low high (without k xs)
first_without low high zero [] h = tt
first_without low high (suc k) [] h = tt
first_without low high k (x ∷ xs) (inl h) = first_none low high (without k (x ∷ xs)) (each_without (λ y. y.old ≡ None) k (x ∷ xs) h)
first_without low high zero (x ∷ xs) (inr h) = first_lower low h.0 high xs h.2 h.5
first_without low high (suc k) (x ∷ xs) (inr h) = inr (h.0, h.1, h.2, h.3, h.4, first_without h.0 high k xs h.5)

-- if one is repeated
first_doubled : (low high k : ℕ) (xs : List SyncLine) → OldFirst low high xs → OldFirst low high (doubled k xs)
first_doubled low high zero [] h = tt
first_doubled low high (suc k) [] h = tt
first_doubled low high k (x ∷ xs) (inl h) = first_none low high (doubled k (x ∷ xs)) (each_doubled (λ y. y.old ≡ None) k (x ∷ xs) h)
first_doubled low high zero (x ∷ xs) (inr h) = inr (h.0, h.1, h.2, h.3, h.4, inr (h.0, h.1, omega arith, h.3, h.4, h.5))
first_doubled low high (suc k) (x ∷ xs) (inr h) = inr (h.0, h.1, h.2, h.3, h.4, first_doubled h.0 high k xs h.5)

-- if one more of this synchronization comes last
first_push : (low high : ℕ) (y : SyncLine) (xs : List SyncLine) → y.old ≡ None → OldFirst low high xs → OldFirst low high (xs ++ y ∷ [])
first_push low high y [] e h = inl (e, tt)
first_push low high y (x ∷ xs) e (inl h) = inl (every_append (λ y. y.old ≡ None) (x ∷ xs) (y ∷ []) h (e, tt))
first_push low high y (x ∷ xs) e (inr h) = inr (h.0, h.1, h.2, h.3, h.4, first_push h.0 high y xs e h.5)

-- if all are old
first_old : (low high : ℕ) (xs : List SyncLine) → AreOld low high xs → OldFirst low high xs
first_old low high [] h = tt
first_old low high (x ∷ xs) h = inr (h.0, h.1, h.2, h.3, h.4, first_old h.0 high xs h.5)

-- what holds until a reply of this synchronization comes: so far all was answered falsely, and the old lines in flight are from `now` on
record AllFalse (start : ℕ) (s : Sync) : Type 0 where
  now : ℕ
  lines : OldFirst now (start + WINDOW) s.lines
  falsely : (more : ℕ) → AreAnsweredFalsely s.left now (start + WINDOW) more → AreAnsweredFalsely the_word start (start + WINDOW) (s.damaged + more)

-- The invariant: no old line is in flight, or `AllFalse` holds.
abbrev Sound : (start : ℕ) → Sync → Type 0
Sound start s = NoneIsOld s.lines ⊎ AllFalse start s

-- a null procedure that is sent keeps it
sound_asked : (start : ℕ) (s : Sync) (left : List ℕ) → Sound start s → Sound start (sync_asked s left)
sound_asked start s [] h = h
sound_asked start s (w ∷ ws) (inl h) = inl (every_append (λ x. x.old ≡ None) s.lines (null_line w ∷ []) h (refl, tt))
sound_asked start s (w ∷ ws) (inr h) = inr (record { now = h.now; lines = first_push h.now (start + WINDOW) (null_line w) s.lines refl h.lines; falsely = h.falsely })

-- what was answered falsely, if an old line came
falsely_old : (start now n id : ℕ) (left : List ℕ) (damaged : ℕ) → now ≤ n → n ≤ start + WINDOW → id ≡ n % IDS
    → ((more : ℕ) → AreAnsweredFalsely left now (start + WINDOW) more → AreAnsweredFalsely the_word start (start + WINDOW) (damaged + more))
    → (more : ℕ) → AreAnsweredFalsely (left_by left (Some id)) n (start + WINDOW) more → AreAnsweredFalsely the_word start (start + WINDOW) (damaged + more)
falsely_old start now n id [] damaged h1 h2 e f more h = f more tt
falsely_old start now n id (w ∷ ws) damaged h1 h2 e f more h = chosen (nat_eq id w) refl h where
  -- a list that is answered from a number on is answered from a lower one on
  lower : (ws : List ℕ) (low high more : ℕ) → low ≤ high → AreAnsweredFalsely ws high (start + WINDOW) more → AreAnsweredFalsely ws low (start + WINDOW) more
  lower [] low high more le h = tt
  lower (w ∷ ws) low high more le (inl h) = let e = h.1 in inl (h.0, omega (arith, le, e), h.2, h.3, h.4)
  lower (w ∷ ws) low high more le (inr h) = inr (h.0, h.1, lower ws low high h.0 le h.2)

  -- the lemma above, by whether the line has the first id that is left
  chosen : (has : Bool) → nat_eq id w ≡ has → AreAnsweredFalsely (left_when has w ws) n (start + WINDOW) more → AreAnsweredFalsely the_word start (start + WINDOW) (damaged + more)
  chosen true same h = f more (inl (n, h1, h2, sym e ∙ eqb-true id w same, h))
  chosen false other h = f more (lower (w ∷ ws) now n more h1 h)

-- what was answered falsely, if a damaged line came
falsely_damaged : (start now id : ℕ) (left : List ℕ) (damaged : ℕ)
    → ((more : ℕ) → AreAnsweredFalsely left now (start + WINDOW) more → AreAnsweredFalsely the_word start (start + WINDOW) (damaged + more))
    → (more : ℕ) → AreAnsweredFalsely (left_by left (Some id)) now (start + WINDOW) more → AreAnsweredFalsely the_word start (start + WINDOW) ((if is_answered left (Some id) then damaged + 1 else damaged) + more)
falsely_damaged start now id [] damaged f more h = f more tt
falsely_damaged start now id (w ∷ ws) damaged f more h = chosen (nat_eq id w) h where
  -- the lemma above, by whether the line has the first id that is left
  chosen : (has : Bool) → AreAnsweredFalsely (left_when has w ws) now (start + WINDOW) more → AreAnsweredFalsely the_word start (start + WINDOW) ((if has then damaged + 1 else damaged) + more)
  chosen true h =
      let e : damaged + (more + 1) ≡ damaged + 1 + more = omega arith in
      subst (λ n. AreAnsweredFalsely the_word start (start + WINDOW) n) e (f (more + 1) (inr (more, refl, h)))
  chosen false h = f more h

-- the front line keeps it
sound_delivered : (start : ℕ) (s : Sync) (lines : List SyncLine) → s.lines ≡ lines → Sound start s → Sound start (sync_delivered s lines)
sound_delivered start s [] e h = h
sound_delivered start s (x ∷ rest) e (inl h) = inl (subst (λ l. AllByRecursion (λ y. y.old ≡ None) l) e h).1
sound_delivered start s (x ∷ rest) e (inr h) = elim (subst (λ l. OldFirst h.now (start + WINDOW) l) e h.lines) [
  | inl own ↦ inl own.1
  | inr old ↦ inr (record { now = old.0; lines = old.5; falsely = falsely_old start h.now old.0 x.id s.left s.damaged old.2 old.3 old.4 h.falsely })
]

-- each step keeps it
sound_after : (start : ℕ) (s : Sync) (x : SyncStep) → Sound start s → Sound start (sync_after s x)
sound_after start s Ask h = sound_asked start s s.left h
sound_after start s Deliver h = sound_delivered start s s.lines refl h
sound_after start s (Damage id) (inl h) = inl h
sound_after start s (Damage id) (inr h) = inr (record { now = h.now; lines = h.lines; falsely = falsely_damaged start h.now id s.left s.damaged h.falsely })
sound_after start s (Lose k) (inl h) = inl (each_without (λ x. x.old ≡ None) k s.lines h)
sound_after start s (Lose k) (inr h) = inr (record { now = h.now; lines = first_without h.now (start + WINDOW) k s.lines h.lines; falsely = h.falsely })
sound_after start s (Repeat k) (inl h) = inl (each_doubled (λ x. x.old ≡ None) k s.lines h)
sound_after start s (Repeat k) (inr h) = inr (record { now = h.now; lines = first_doubled h.now (start + WINDOW) k s.lines h.lines; falsely = h.falsely })

-- steps keep it
sound_steps : (start : ℕ) (steps : List SyncStep) (s : Sync) → Sound start s → Sound start (sync s steps)
sound_steps start [] s h = h
sound_steps start (x ∷ steps) s h = sound_steps start steps (sync_after s x) (sound_after start s x h)

-- no old line is left after at most five damaged answers
pub five_are_borne : (low : ℕ) (lines : List SyncLine) → AreOld low (low + WINDOW) lines → (steps : List SyncStep) → (synchronized lines steps).left ≡ []
    → (synchronized lines steps).damaged ≤ 5 → NoneIsOld (synchronized lines steps).lines
five_are_borne low lines old steps done few = ends (sound_steps low steps (sync_over lines) (inr begins)) where
  -- the start
  begins : AllFalse low (sync_over lines)
  begins = record {
    now = low;
    lines = first_old low (low + WINDOW) lines old;
    falsely = λ more h. let e : more ≡ 0 + more = omega arith in subst (λ n. AreAnsweredFalsely the_word low (low + WINDOW) n) e h;
  }

  -- the end
  ends : Sound low (synchronized lines steps) → NoneIsOld (synchronized lines steps).lines
  ends (inl h) = h
  ends (inr h) =
      let s = synchronized lines steps in
      let all = h.falsely 0 (subst (λ l. AreAnsweredFalsely l h.now (low + WINDOW) 0) (sym done) tt) in
      let six = six_at_least low (s.damaged + 0) all in
      absurd (omega (arith, six, few))
