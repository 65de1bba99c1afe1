-- What a loss (`without`) and a repeat (`doubled`) leave of a queue. It is what std's `remove` and `insert` leave, and it
-- doesn't matter whether a function is mapped over the queue before or after.
use Rattle.gc_world.proofs.Common.{◌≡◌, ℕ, zero, suc, ◌<◌, ◌≤◌, true, false, List, [], ◌∷◌, length, map, get_or, Option, Some, None, refl, sym, ◌∙◌, ap, arith, IsSome, OnSome, IfNone, ◌↔◌, remove, insert, without, doubled}

-- where a list has an element k, std's `remove` of it leaves the list without it (`without`)
pub without_is : {A : Type 0} (xs : List A) (k : ℕ) → k < length xs → remove xs k ≡ without k xs
without_is [] k h = absurd (omega arith)
without_is (x ∷ xs) zero h = refl
without_is (x ∷ xs) (suc k) h = ap (λ l. x ∷ l) (without_is xs k (omega arith))

-- where a list has an element k, std's `insert` of this element at place k leaves the list with it twice (`doubled`)
pub doubled_is : {A : Type 0} (xs : List A) (k : ℕ) (x : A) → k < length xs → x ≡ get_or xs k x → insert xs k x ≡ doubled k xs
doubled_is [] k y h e = absurd (omega arith)
doubled_is (x ∷ xs) zero y h e = ap (λ z. z ∷ x ∷ xs) e
doubled_is (x ∷ xs) (suc k) y h e = ap (λ l. x ∷ l) (doubled_is xs k y (omega arith) e)

module _ {A B : Type 0} (f : A → B) where
  -- taking out element k and mapping a function may be done in either order
  pub without_map : (k : ℕ) (xs : List A) → without k (map f xs) ≡ map f (without k xs)
  without_map k [] = refl
  without_map zero (x ∷ xs) = refl
  without_map (suc k) (x ∷ xs) = ap (λ l. f x ∷ l) (without_map k xs)

  -- doubling element k and mapping a function may be done in either order
  pub doubled_map : (k : ℕ) (xs : List A) → doubled k (map f xs) ≡ map f (doubled k xs)
  doubled_map k [] = refl
  doubled_map zero (x ∷ xs) = refl
  doubled_map (suc k) (x ∷ xs) = ap (λ l. f x ∷ l) (doubled_map k xs)

-- taking out element k changes nothing where there is none
pub without_past : {A : Type 0} (k : ℕ) (xs : List A) → length xs ≤ k → without k xs ≡ xs
without_past k [] h = refl
without_past zero (x ∷ xs) h = absurd (omega arith)
without_past (suc k) (x ∷ xs) h = ap (λ l. x ∷ l) (without_past k xs (omega arith))

-- doubling element k changes nothing where there is none
pub doubled_past : {A : Type 0} (k : ℕ) (xs : List A) → length xs ≤ k → doubled k xs ≡ xs
doubled_past k [] h = refl
doubled_past zero (x ∷ xs) h = absurd (omega arith)
doubled_past (suc k) (x ∷ xs) h = ap (λ l. x ∷ l) (doubled_past k xs (omega arith))

-- where P gives Q, and P holds if the option o is `None`, Q holds if o is `None`
pub if_none : {A P Q : Type 0} (o : Option A) → (P → Q) → IfNone o P → IfNone o Q
if_none (Some x) f h = tt
if_none None f h = f h

-- what a removal of element k leaves of a queue, by its result o: if o is `Some` exactly where `old` has an element k, and `new`
-- is then `old` after std's `remove`, and else `old` itself, `new` is `old` without element k (`without`)
pub lose_left : {A : Type 0} (o : Option A) (k : ℕ) (old new : List A) → (IsSome o ↔ (k < length old)) → OnSome o (new ≡ remove old k)
    → IfNone o (new ≡ old) → new ≡ without k old
lose_left (Some x) k old new v some none = some ∙ without_is old k (v.0 refl)
lose_left None k old new v some none =
    let past : k < length old → ⊥ = λ lt. let h : false ≡ true = v.1 lt in cc in
    none ∙ sym (without_past k old (omega (arith, past)))
