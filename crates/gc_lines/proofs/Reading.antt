-- A reader of one field, and what it finds where the field has its form, or hasn't. A chain is `r >>= f`: r is its first part.
use Rattle.gc_lines.proofs.Common.{◌≡◌, ℕ, ◌⊎◌, inl, inr, Bool, true, false, cond, List, Result, Ok, Err, IfOk, IfErr, refl, sym, ap, subst, LineFault, GivesSame, GivesEach, FailsEach, ReadsExactly, ◌>>=◌}

-- a reader finds just what has the form, and has one fault
pub record ReadsField {A : Type 0} (read : List ℕ → Result A LineFault) (Has : List ℕ → A → Type 0) (fault : LineFault) : Type 0 where
  pub found : (bytes : List ℕ) (a : A) → read bytes ≡ Ok a → Has bytes a
  pub again : (bytes : List ℕ) (a : A) → Has bytes a → read bytes ≡ Ok a
  pub named : (bytes : List ℕ) (d : LineFault) → read bytes ≡ Err d → fault ≡ d

-- if bytes have the form with no value, a reader of that form (`ReadsField`) gives its fault for them
pub none_means_fault : {A : Type 0} (read : List ℕ → Result A LineFault) (Has : List ℕ → A → Type 0) (fault : LineFault) → ReadsField read Has fault
    → (bytes : List ℕ) → ((a : A) → ¬ Has bytes a) → read bytes ≡ Err fault
none_means_fault {A} read Has fault reads bytes none = by_cases (read bytes) refl where
  -- whatever the reader gave: as the bytes have the form with no value, it is the reader's fault
  by_cases : (r : Result A LineFault) → read bytes ≡ r → r ≡ Err fault
  by_cases (Ok a) e = absurd (none a (reads.found bytes a e))
  by_cases (Err d) e = ap (λ (g : LineFault). Err g) (sym (reads.named bytes d e))

-- if a reader of a form (`ReadsField`) gives a fault for bytes, they have the form with no value
pub fault_means_none : {A : Type 0} (read : List ℕ → Result A LineFault) (Has : List ℕ → A → Type 0) (fault : LineFault) → ReadsField read Has fault
    → (bytes : List ℕ) (d : LineFault) → read bytes ≡ Err d → (a : A) → ¬ Has bytes a
fault_means_none read Has fault reads bytes d e a has = let again = reads.again bytes a has in (cc)

-- if a chain gives the value y, its first part gives a value x, and its second part gives y for x
pub bind_ok : {A B : Type 0} (r : Result A LineFault) (f : A → Result B LineFault) (y : B) → (r >>= f) ≡ Ok y → (x : A) × (r ≡ Ok x) × (f x ≡ Ok y)
bind_ok (Ok x) f y e = (x, refl, e)
bind_ok (Err d) f y e = (cc)

-- if a chain gives a fault, either its first part gives it, or its second part does for a value that the first gives
pub bind_err : {A B : Type 0} (r : Result A LineFault) (f : A → Result B LineFault) (d : LineFault) → (r >>= f) ≡ Err d
    → (r ≡ Err d) ⊎ ((x : A) × (r ≡ Ok x) × (f x ≡ Err d))
bind_err (Ok x) f d e = inr (x, refl, e)
bind_err (Err c) f d e = inl (cc)

-- if its first part gives the value x, a chain gives what its second part gives for x
pub bind_on : {A B : Type 0} (r : Result A LineFault) (f : A → Result B LineFault) (x : A) → r ≡ Ok x → (r >>= f) ≡ f x
bind_on (Ok y) f x e = let same : y ≡ x = cc in ap f same
bind_on (Err d) f x e = (cc)

-- if its first part gives a fault, a chain gives that fault
pub bind_stop : {A B : Type 0} (r : Result A LineFault) (f : A → Result B LineFault) (d : LineFault) → r ≡ Err d → (r >>= f) ≡ Err d
bind_stop (Ok y) f d e = (cc)
bind_stop (Err c) f d e = let same : c ≡ d = cc in ap (λ (g : LineFault). Err g) same

-- if a guard, which is x if the test b holds and else a fault, is the value y, b holds, and x is y
pub guard_ok : {A : Type 0} (b : Bool) (x y : A) (d : LineFault) → cond b (Ok x) (Err d) ≡ Ok y → (b ≡ true) × (x ≡ y)
guard_ok true x y d e = (refl, cc)
guard_ok false x y d e = (cc)

-- if a guard, which is x if the test b holds and else the fault c, is the fault d, b fails, and c is d
pub guard_err : {A : Type 0} (b : Bool) (x : A) (c d : LineFault) → cond b (Ok x) (Err c) ≡ Err d → (b ≡ false) × (c ≡ d)
guard_err true x c d e = (cc)
guard_err false x c d e = (refl, cc)

-- a reader of lines finds just what has the grammar, and names just the first bad field
pub record ReadsLines {F : Type 0} (read : List ℕ → Result F LineFault) (Is : List ℕ → F → Type 0) (Bad : List ℕ → LineFault → Type 0) : Type 0 where
  pub found : (line : List ℕ) (x : F) → read line ≡ Ok x → Is line x
  pub again : (line : List ℕ) (x : F) → Is line x → read line ≡ Ok x
  pub fault : (line : List ℕ) (d : LineFault) → read line ≡ Err d → Bad line d
  pub bad : (line : List ℕ) (d : LineFault) → Bad line d → read line ≡ Err d

-- a reader of lines (`ReadsLines`) reads exactly by its grammar, as `ReadsExactly` has it
pub reads_exactly : {F : Type 0} {read : List ℕ → Result F LineFault} {Is : List ℕ → F → Type 0} {Bad : List ℕ → LineFault → Type 0}
    → ReadsLines read Is Bad → ReadsExactly read Is Bad
reads_exactly reads = record {
  found = λ line x. (reads.found line x, reads.again line x);
  fault = λ line f. (reads.fault line f, reads.bad line f);
  one = λ line x y is_x is_y. let a = reads.again line x is_x in let b = reads.again line y is_y in cc;
}

-- what a caller of a reader of lines learns, who sees the result by a view: a value has the grammar, a fault is the first bad
-- field, and each of them is given wherever the line has it
pub record KnowsResult {F X : Type 0} (Is : List ℕ → F → Type 0) (Bad : List ℕ → LineFault → Type 0) (view : X → F) (line : List ℕ)
    (r : Result X LineFault) : Type 0 where
  pub found : IfOk r (λ x. Is line (view x))
  pub only : GivesEach Is view line r
  pub fault : IfErr r (λ d. Bad line d)
  pub faulty : FailsEach Bad line r

-- if a result, seen by a view, is what a reader of lines (`ReadsLines`) gives of the line, `KnowsResult` is true of it
pub knows_result : {F X : Type 0} {read : List ℕ → Result F LineFault} {Is : List ℕ → F → Type 0} {Bad : List ℕ → LineFault → Type 0}
    → ReadsLines read Is Bad
    → (view : X → F) (line : List ℕ) (r : Result X LineFault) → GivesSame view r (read line) → KnowsResult Is Bad view line r
knows_result {F} {X} {read} {Is} {Bad} reads view line r gives = record { found = found r gives; only = only; fault = fault r gives; faulty = faulty r gives } where
  -- a value has the grammar
  found : (r : Result X LineFault) → GivesSame view r (read line) → IfOk r (λ x. Is line (view x))
  found (Ok x) e = reads.found line (view x) e
  found (Err d) e = tt

  -- if the line has the grammar of y, the result is y, seen by the view
  only : (y : F) → Is line y → GivesSame view r (Ok y)
  only y is = subst (λ (got : Result F LineFault). GivesSame view r got) (reads.again line y is) gives

  -- a fault is the first bad field of the line
  fault : (r : Result X LineFault) → GivesSame view r (read line) → IfErr r (λ d. Bad line d)
  fault (Ok x) e = tt
  fault (Err d) e = reads.fault line d e

  -- if d is the first bad field of the line, the result is the fault d
  faulty : (r : Result X LineFault) → GivesSame view r (read line) → (d : LineFault) → Bad line d → r ≡ Err d
  faulty (Ok x) e d bad = let f = reads.bad line d bad in (cc)
  faulty (Err c) e d bad = let f = reads.bad line d bad in (cc)
