-- What is at a place of a list that was appended or cut, or of two lists of which a relation holds place by place; and
-- settlements among those of requests that were lost.
use Rattle.gc_theorems.proofs.Common.{◌≡◌, ℕ, zero, suc, ◌+◌, ◌-◌, List, [], ◌∷◌, ◌++◌, map, Some, refl, sym, ◌∙◌, ap, subst, arith, drop, slice_get, AllZip, AllByRecursion, Asked, Pending, Lost, Settlement, lost, slice_drop, none-some, same_Some}

-- among the settlements of lost requests (`ps`), the one at place n has the outcome `Lost`
pub lost_at : (ps : List (Pending Asked)) (n : ℕ) (x : Settlement Asked) → slice_get (map lost ps) n ≡ Some x → x.outcome ≡ Lost
lost_at [] n x e = absurd (none-some x e)
lost_at (p ∷ ps) zero x e = ap (λ (s : Settlement Asked). s.outcome) (sym (same_Some (lost p) x e))
lost_at (p ∷ ps) (suc n) x e = lost_at ps n x e

-- if x, whose outcome isn't `Lost`, is at place n of the settlements `xs` followed by those of the lost requests `ps`, x is at
-- place n of `xs`
pub among_first : (xs : List (Settlement Asked)) (ps : List (Pending Asked)) (n : ℕ) (x : Settlement Asked) → (x.outcome ≡ Lost → ⊥)
    → slice_get (xs ++ map lost ps) n ≡ Some x → slice_get xs n ≡ Some x
among_first (y ∷ xs) ps zero x other got = got
among_first (y ∷ xs) ps (suc n) x other got = among_first xs ps n x other got
among_first [] ps n x other got = absurd (other (lost_at ps n x got))

-- where R holds of the elements of two lists, place by place (`AllZip`), it holds of those at place i
pub zip_at : {A B : Type 0} (R : A → B → Type 0) (xs : List A) (ys : List B) (i : ℕ) (x : A) (y : B) → AllZip R xs ys → slice_get xs i ≡ Some x → slice_get ys i ≡ Some y → R x y
zip_at R [] ys i x y h e f = absurd (none-some x e)
zip_at R (a ∷ xs) [] i x y h e f = absurd h
zip_at R (a ∷ xs) (b ∷ ys) zero x y h e f = subst (λ z. R z y) (same_Some a x e) (subst (λ z. R a z) (same_Some b y f) h.0)
zip_at R (a ∷ xs) (b ∷ ys) (suc i) x y h e f = zip_at R xs ys i x y h.1 e f

-- where R holds of the elements of two lists, place by place, and R implies Q, Q holds of them
pub zip_on : {A B : Type 0} (R Q : A → B → Type 0) → ((x : A) (y : B) → R x y → Q x y) → (xs : List A) (ys : List B) → AllZip R xs ys → AllZip Q xs ys
zip_on R Q f [] [] h = tt
zip_on R Q f [] (y ∷ ys) h = absurd h
zip_on R Q f (x ∷ xs) [] h = absurd h
zip_on R Q f (x ∷ xs) (y ∷ ys) h = (f x y h.0, zip_on R Q f xs ys h.1)

-- where R implies P of the second element, P holds of each element of the second list
pub zip_each : {A B : Type 0} (R : A → B → Type 0) (P : B → Type 0) → ((x : A) (y : B) → R x y → P y) → (xs : List A) (ys : List B) → AllZip R xs ys → AllByRecursion P ys
zip_each R P f [] [] h = tt
zip_each R P f [] (y ∷ ys) h = absurd h
zip_each R P f (x ∷ xs) [] h = absurd h
zip_each R P f (x ∷ xs) (y ∷ ys) h = (f x y h.0, zip_each R P f xs ys h.1)

-- what holds of the element at each place holds of each element
pub each_at : {A : Type 0} (P : A → Type 0) (xs : List A) → ((i : ℕ) (x : A) → slice_get xs i ≡ Some x → P x) → AllByRecursion P xs
each_at P [] f = tt
each_at P (x ∷ xs) f = (f 0 x refl, each_at P xs (λ i y got. f (suc i) y got))

-- the element at place n of a list without its first k elements is at place k + n of the whole list
pub get_drop : {A : Type 0} (k n : ℕ) (xs : List A) (x : A) → slice_get (drop k xs) n ≡ Some x → slice_get xs (k + n) ≡ Some x
get_drop k n xs x got = let same : k + n - k ≡ n = omega arith in sym (slice_drop k xs (k + n) (omega arith)) ∙ ap (slice_get (drop k xs)) same ∙ got
