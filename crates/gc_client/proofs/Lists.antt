-- Lists in loops: what is true of the first k elements, or of those from place k on, one element further.
use Rattle.gc_client.proofs.Common.{◌≡◌, ℕ, zero, suc, ◌+◌, Bool, List, [], ◌∷◌, ◌++◌, map, filter, take, drop, get_or, Option, Some, None, sym, ◌∙◌, ap, arith, slice_get, IsSome, map-append, take_more, drop_more, filter-append, slice_get_within, get_or_from_slice_get}

-- the first k + 1 elements are the first k, and the one at place k
pub take_next : {A : Type 0} (xs : List A) (k : ℕ) (x : A) → slice_get xs k ≡ Some x → take (suc k) xs ≡ take k xs ++ x ∷ []
take_next xs k x e =
    let next : suc k ≡ k + 1 = omega arith in
    ap (λ n. take n xs) next ∙ take_more xs k x (slice_get_within xs k x e) ∙ ap (λ y. take k xs ++ y ∷ []) (get_or_from_slice_get xs k x x e)

-- what f makes of those of the first k + 1 elements that pass a test is what it makes of those of the first k, and of the one at
-- place k if that passes
pub next_chosen : {A B : Type 0} (f : A → B) (test : A → Bool) (xs : List A) (k : ℕ) (x : A) → slice_get xs k ≡ Some x
    → map f (filter test (take (suc k) xs)) ≡ map f (filter test (take k xs)) ++ map f (filter test (x ∷ []))
next_chosen f test xs k x e =
    ap (λ ys. map f (filter test ys)) (take_next xs k x e) ∙ ap (map f) (filter-append test (take k xs) (x ∷ []))
    ∙ map-append f (filter test (take k xs)) (filter test (x ∷ []))

-- the elements from place k on are the one at place k and those after it
pub drop_next : {A : Type 0} (xs : List A) (k : ℕ) (x : A) → slice_get xs k ≡ Some x → drop k xs ≡ x ∷ drop (suc k) xs
drop_next xs k x e =
    let next : k + 1 ≡ suc k = omega arith in
    drop_more xs k x (slice_get_within xs k x e) ∙ ap (λ n. get_or xs k x ∷ drop n xs) next ∙ ap (λ y. y ∷ drop (suc k) xs) (get_or_from_slice_get xs k x x e)

-- the first of the elements from place k on is at place k
pub head_of_drop : {A : Type 0} (xs : List A) (k : ℕ) (x : A) (rest : List A) → drop k xs ≡ x ∷ rest → slice_get xs k ≡ Some x
head_of_drop [] zero x rest e = cc
head_of_drop [] (suc k) x rest e = cc
head_of_drop (y ∷ xs) zero x rest e = cc
head_of_drop (y ∷ xs) (suc k) x rest e = head_of_drop xs k x rest e

-- where qs are the elements from place k on, and p is the first of them, the others are those from place k + 1 on
pub rest_after_first : {A : Type 0} (ws : List A) (k : ℕ) (p : A) (qs qs' : List A) → qs ≡ drop k ws → qs ≡ p ∷ qs' → qs' ≡ drop (k + 1) ws
rest_after_first ws k p qs qs' rest first =
    let here : slice_get ws k ≡ Some p = head_of_drop ws k p qs' (sym rest ∙ first) in
    let n : suc k ≡ k + 1 = omega arith in
    let both : p ∷ qs' ≡ p ∷ drop (suc k) ws = sym first ∙ rest ∙ drop_next ws k p here in
    let tails : qs' ≡ drop (suc k) ws = cc in
    tails ∙ ap (λ m. drop m ws) n

-- an option that is `None` isn't a `Some`
pub none_is_no_some : {A : Type 0} (o : Option A) → o ≡ None → IsSome o → ⊥
none_is_no_some None e is = cc
none_is_no_some (Some x) e is = cc
