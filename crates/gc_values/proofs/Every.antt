-- What holds of each element of a list (`AllByRecursion`) holds of each element of its parts, and what follows from it holds,
-- too. `every_append`: what holds of the elements of two lists holds of those of both, one after the other. `every_at`: what
-- holds of each element holds of the one at a place.
use Rattle.gc_values.proofs.Common.{ℕ, ◌+◌, ◌<◌, List, [], ◌∷◌, ◌++◌, length, get_or, take, drop, All-from_recursion, recursion_from_All, AllByRecursion}
use Rattle.std.proofs.lemmas.List.Elements as elements
pub use Rattle.std.proofs.Permutation.{every_append, every_at}

-- if P of an element implies Q of it, and P holds of each element, Q holds of each
pub every_weaker : {A : Type 0} (P Q : A → Type 0) (xs : List A) → ((x : A) → P x → Q x) → AllByRecursion P xs → AllByRecursion Q xs
every_weaker P Q xs step all = recursion_from_All Q xs (elements.All-weaker P Q step xs (All-from_recursion P xs all))

-- what holds of each element holds of the first n
pub every_take : {A : Type 0} (P : A → Type 0) (xs : List A) (n : ℕ) → AllByRecursion P xs → AllByRecursion P (take n xs)
every_take P xs n all = recursion_from_All P (take n xs) (elements.All-take P n xs (All-from_recursion P xs all))

-- what holds of each element holds of those after the first n
pub every_drop : {A : Type 0} (P : A → Type 0) (xs : List A) (n : ℕ) → AllByRecursion P xs → AllByRecursion P (drop n xs)
every_drop P xs n all = recursion_from_All P (drop n xs) (elements.All-drop P n xs (All-from_recursion P xs all))

-- what holds of the first i elements, and of the one at place i, holds of the first i + 1
pub every_more : {A : Type 0} (P : A → Type 0) (xs : List A) (i : ℕ) (d : A) → i < length xs → AllByRecursion P (take i xs) → P (get_or xs i d)
    → AllByRecursion P (take (i + 1) xs)
every_more P xs i d within all next = recursion_from_All P (take (i + 1) xs) (elements.All-more P xs i d within (All-from_recursion P (take i xs) all) next)

-- what holds of each element of two lists, one after the other, holds of those of the first
pub every_front : {A : Type 0} (P : A → Type 0) (xs ys : List A) → AllByRecursion P (xs ++ ys) → AllByRecursion P xs
every_front P [] ys all = tt
every_front P (x ∷ xs) ys all = (all.0, every_front P xs ys all.1)

-- what holds of each element of two lists, one after the other, holds of those of the second
pub every_behind : {A : Type 0} (P : A → Type 0) (xs ys : List A) → AllByRecursion P (xs ++ ys) → AllByRecursion P ys
every_behind P [] ys all = all
every_behind P (x ∷ xs) ys all = every_behind P xs ys all.1
