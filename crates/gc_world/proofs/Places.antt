-- The element at a place of a list, also of a list that was mapped, appended to or cut.
use Rattle.gc_world.proofs.Common.{◌≡◌, ℕ, zero, suc, ◌-◌, ◌<◌, ◌≤◌, List, [], ◌∷◌, length, map, drop, get_or, Some, refl, ◌∙◌, ap, arith, slice_get, option_map, same_Some, none-some, slice_get-get_or, slice_get-map}
pub use Rattle.gc_lines.proofs.Lists.{all_at, get_more, get_push}

-- where xs has x at place n, map f xs has f x there
pub get_map : {A B : Type 0} (f : A → B) (xs : List A) (n : ℕ) (x : A) → slice_get xs n ≡ Some x → slice_get (map f xs) n ≡ Some (f x)
get_map f xs n x e = slice_get-map f xs n ∙ ap (option_map f) e

-- where map f xs has y at place n, xs has an x there of which f makes y
pub get_seen : {A B : Type 0} (f : A → B) (xs : List A) (n : ℕ) (y : B) → slice_get (map f xs) n ≡ Some y → (x : A) × (slice_get xs n ≡ Some x) × (f x ≡ y)
get_seen f [] n y e = absurd (none-some y e)
get_seen f (x ∷ xs) zero y e = (x, refl, same_Some (f x) y e)
get_seen f (x ∷ xs) (suc n) y e = get_seen f xs n y e

-- where k is at most n, element n - k of the list after the first k is element n of the whole list
pub slice_drop : {A : Type 0} (k : ℕ) (xs : List A) (n : ℕ) → k ≤ n → slice_get (drop k xs) (n - k) ≡ slice_get xs n
slice_drop zero xs n le = let e : n - 0 ≡ n = omega arith in ap (slice_get xs) e
slice_drop (suc k) [] n le = refl
slice_drop (suc k) (x ∷ xs) zero le = absurd (omega (arith, le))
slice_drop (suc k) (x ∷ xs) (suc n) le = let e : suc n - suc k ≡ n - k = omega arith in ap (slice_get (drop k xs)) e ∙ slice_drop k xs n (omega (arith, le))

-- a place below the length has an element
pub element_at : {A : Type 0} (xs : List A) (k : ℕ) → k < length xs → (x : A) × (slice_get xs k ≡ Some x)
element_at [] k lt = absurd (omega arith)
element_at (x ∷ xs) k lt = (get_or (x ∷ xs) k x, slice_get-get_or (x ∷ xs) k x lt)
