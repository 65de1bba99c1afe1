-- What holds of each line in flight, and their order, if one is lost, one is repeated, or one more is sent.
use Rattle.gc_theorems.proofs.Common.{ℕ, zero, suc, ◌<◌, ◌≤◌, List, [], ◌∷◌, ◌++◌, arith, ⊤, AllByRecursion, InFlight}
use Rattle.gc_theorems.specs.OneQueue.{without, doubled}

-- what holds of each element holds of each of a list without one of them
pub each_without : {A : Type 0} (P : A → Type 0) (k : ℕ) (xs : List A) → AllByRecursion P xs → AllByRecursion P (without k xs)
each_without P zero [] h = tt
each_without P (suc k) [] h = tt
each_without P zero (x ∷ xs) h = h.1
each_without P (suc k) (x ∷ xs) h = (h.0, each_without P k xs h.1)

-- what holds of each element holds of each of a list with one of them twice
pub each_doubled : {A : Type 0} (P : A → Type 0) (k : ℕ) (xs : List A) → AllByRecursion P xs → AllByRecursion P (doubled k xs)
each_doubled P zero [] h = tt
each_doubled P (suc k) [] h = tt
each_doubled P zero (x ∷ xs) h = (h.0, (h.0, h.1))
each_doubled P (suc k) (x ∷ xs) h = (h.0, each_doubled P k xs h.1)

-- what follows for each element from what holds of it
pub each_weaker : {A : Type 0} (P Q : A → Type 0) → ((x : A) → P x → Q x) → (xs : List A) → AllByRecursion P xs → AllByRecursion Q xs
each_weaker P Q f [] h = tt
each_weaker P Q f (x ∷ xs) h = (f x h.0, each_weaker P Q f xs h.1)

-- what follows for each element from two things that hold of it
pub each_both : {A : Type 0} (P Q R : A → Type 0) → ((x : A) → P x → Q x → R x) → (xs : List A) → AllByRecursion P xs → AllByRecursion Q xs → AllByRecursion R xs
each_both P Q R f [] h g = tt
each_both P Q R f (x ∷ xs) h g = (f x h.0 g.0, each_both P Q R f xs h.1 g.1)

-- the numbers never fall, from `low` on
abbrev pub Ordered : (low : ℕ) → List InFlight → Type 0
Ordered low [] = ⊤
Ordered low (x ∷ xs) = (low ≤ x.number) × Ordered x.number xs

-- from a lower number on they don't fall either
pub ordered_lower : (low high : ℕ) (xs : List InFlight) → low ≤ high → Ordered high xs → Ordered low xs
ordered_lower low high [] le h = tt
ordered_lower low high (x ∷ xs) le h = (omega (arith, le, h.0), h.1)

-- they don't fall if a line is lost
pub ordered_without : (low k : ℕ) (xs : List InFlight) → Ordered low xs → Ordered low (without k xs)
ordered_without low zero [] h = tt
ordered_without low (suc k) [] h = tt
ordered_without low zero (x ∷ xs) h = ordered_lower low x.number xs h.0 h.1
ordered_without low (suc k) (x ∷ xs) h = (h.0, ordered_without x.number k xs h.1)

-- they don't fall if a line is repeated
pub ordered_doubled : (low k : ℕ) (xs : List InFlight) → Ordered low xs → Ordered low (doubled k xs)
ordered_doubled low zero [] h = tt
ordered_doubled low (suc k) [] h = tt
ordered_doubled low zero (x ∷ xs) h = (h.0, (omega arith, h.1))
ordered_doubled low (suc k) (x ∷ xs) h = (h.0, ordered_doubled x.number k xs h.1)

-- they don't fall if a line comes last whose number is above all others
pub ordered_push : (low : ℕ) (y : InFlight) (xs : List InFlight) → low ≤ y.number → AllByRecursion (λ x. x.number < y.number) xs → Ordered low xs → Ordered low (xs ++ y ∷ [])
ordered_push low y [] le below h = (le, tt)
ordered_push low y (x ∷ xs) le below h = (h.0, ordered_push x.number y xs (omega (arith, below.0)) below.1 h.1)

-- each of the numbers is at least `low`
pub ordered_each : (low : ℕ) (xs : List InFlight) → Ordered low xs → AllByRecursion (λ x. low ≤ x.number) xs
ordered_each low [] h = tt
ordered_each low (x ∷ xs) h = (h.0, each_weaker (λ y. x.number ≤ y.number) (λ y. low ≤ y.number) (λ y g. omega (arith, h.0, g)) xs (ordered_each x.number xs h.1))
