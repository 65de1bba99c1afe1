-- Numbers in a queue: what holds of each, and that they never fall. Where a comment says that numbers never fall, `Rising low`
-- holds of them: none is below low - 1 either.
use Rattle.gc_world.proofs.Common.{ℕ, zero, suc, ◌+◌, ◌<◌, ◌≤◌, List, [], ◌∷◌, ◌++◌, arith, AllByRecursion, every_weaker as all_on, Rising, numbers}
use Rattle.gc_world.specs.Worlds.{without, doubled, Numbered}

module _ {A : Type 0} where
  -- a property that each element has holds of each element of the list without element k
  pub each_without : (P : A → Type 0) (k : ℕ) (xs : List A) → AllByRecursion P xs → AllByRecursion P (without k xs)
  each_without P k [] h = tt
  each_without P zero (x ∷ xs) h = h.1
  each_without P (suc k) (x ∷ xs) h = (h.0, each_without P k xs h.1)

  -- a property that each element has holds of each element of the list with element k twice
  pub each_doubled : (P : A → Type 0) (k : ℕ) (xs : List A) → AllByRecursion P xs → AllByRecursion P (doubled k xs)
  each_doubled P k [] h = tt
  each_doubled P zero (x ∷ xs) h = (h.0, (h.0, h.1))
  each_doubled P (suc k) (x ∷ xs) h = (h.0, each_doubled P k xs h.1)

-- what holds of the number of each line holds of each number of the queue
pub each_number : {Line : Type 0} (P : ℕ → Type 0) (xs : List (Numbered Line)) → AllByRecursion (λ x. P x.number) xs → AllByRecursion P (numbers xs)
each_number P [] h = tt
each_number P (x ∷ xs) h = (h.0, each_number P xs h.1)

-- `Rising` from `high` on is `Rising` from each `low` on that is at most `high`
pub rising_lower : (low high : ℕ) (ns : List ℕ) → low ≤ high → Rising high ns → Rising low ns
rising_lower low high [] le h = tt
rising_lower low high (n ∷ ns) le h = (omega (arith, h.0), h.1)

module _ {Line : Type 0} where
  -- where the numbers of a queue, and ns after them, never fall, they still don't once line k of the
  -- queue, if there is one, is lost
  pub rising_without : (low k : ℕ) (xs : List (Numbered Line)) (ns : List ℕ) → Rising low (numbers xs ++ ns) → Rising low (numbers (without k xs) ++ ns)
  rising_without low k [] ns h = h
  rising_without low zero (x ∷ xs) ns h = rising_lower low (x.number + 1) (numbers xs ++ ns) h.0 h.1
  rising_without low (suc k) (x ∷ xs) ns h = (h.0, rising_without (x.number + 1) k xs ns h.1)

  -- where the numbers of a queue, and ns after them, never fall, they still don't once line k of the
  -- queue, if there is one, is repeated
  pub rising_doubled : (low k : ℕ) (xs : List (Numbered Line)) (ns : List ℕ) → Rising low (numbers xs ++ ns) → Rising low (numbers (doubled k xs) ++ ns)
  rising_doubled low k [] ns h = h
  rising_doubled low zero (x ∷ xs) ns h = (h.0, (omega arith, h.1))
  rising_doubled low (suc k) (x ∷ xs) ns h = (h.0, rising_doubled (x.number + 1) k xs ns h.1)

  -- where ns, and the numbers of a queue after them, never fall, they still don't once line k of the
  -- queue, if there is one, is lost
  pub rising_without_behind : (low k : ℕ) (ns : List ℕ) (xs : List (Numbered Line)) → Rising low (ns ++ numbers xs) → Rising low (ns ++ numbers (without k xs))
  rising_without_behind low k [] [] h = tt
  rising_without_behind low zero [] (x ∷ xs) h = rising_lower low (x.number + 1) (numbers xs) h.0 h.1
  rising_without_behind low (suc k) [] (x ∷ xs) h = (h.0, rising_without_behind (x.number + 1) k [] xs h.1)
  rising_without_behind low k (n ∷ ns) xs h = (h.0, rising_without_behind (n + 1) k ns xs h.1)

  -- where ns, and the numbers of a queue after them, never fall, they still don't once line k of the
  -- queue, if there is one, is repeated
  pub rising_doubled_behind : (low k : ℕ) (ns : List ℕ) (xs : List (Numbered Line)) → Rising low (ns ++ numbers xs) → Rising low (ns ++ numbers (doubled k xs))
  rising_doubled_behind low k [] [] h = tt
  rising_doubled_behind low zero [] (x ∷ xs) h = (h.0, (omega arith, h.1))
  rising_doubled_behind low (suc k) [] (x ∷ xs) h = (h.0, rising_doubled_behind (x.number + 1) k [] xs h.1)
  rising_doubled_behind low k (n ∷ ns) xs h = (h.0, rising_doubled_behind (n + 1) k ns xs h.1)

  -- where the numbers of a queue, then n, and then ns never fall, they still don't once a line with the number n goes to the
  -- queue's back in the place of that n, before ns
  pub rising_moved : (low n : ℕ) (line : Line) (xs : List (Numbered Line)) (ns : List ℕ) → Rising low (numbers xs ++ n ∷ ns)
      → Rising low (numbers (xs ++ record { number = n; line = line } ∷ []) ++ ns)
  rising_moved low n line [] ns h = h
  rising_moved low n line (x ∷ xs) ns h = (h.0, rising_moved (x.number + 1) n line xs ns h.1)

  -- where ns, and the numbers of a queue after them, never fall, and n is above all of them, and at least low - 1, they still
  -- don't once a line with the number n goes to the queue's back
  pub rising_push : (low n : ℕ) (line : Line) (ns : List ℕ) (xs : List (Numbered Line)) → low ≤ n + 1
      → AllByRecursion (λ m. m < n) (ns ++ numbers xs) → Rising low (ns ++ numbers xs) → Rising low (ns ++ numbers (xs ++ record { number = n; line = line } ∷ []))
  rising_push low n line [] [] le below h = (le, tt)
  rising_push low n line [] (x ∷ xs) le below h = (h.0, rising_push (x.number + 1) n line [] xs (omega (arith, below.0)) below.1 h.1)
  rising_push low n line (m ∷ ns) xs le below h = (h.0, rising_push (m + 1) n line ns xs (omega (arith, below.0)) below.1 h.1)

-- where `Rising low` holds of the numbers of a queue, each of them is at least low - 1
pub rising_each : {Line : Type 0} (low : ℕ) (xs : List (Numbered Line)) → Rising low (numbers xs) → AllByRecursion (λ x. low ≤ x.number + 1) xs
rising_each low [] h = tt
rising_each low (x ∷ xs) h = (h.0, all_on (λ y. x.number + 1 ≤ y.number + 1) (λ y. low ≤ y.number + 1) xs (λ y k. omega (arith, k, h.0)) (rising_each (x.number + 1) xs h.1))

-- where `Rising low` holds of numbers, n among them is at least low - 1, and `Rising (n + 1)` holds of those after it
pub rising_tail : (low n : ℕ) (xs ys : List ℕ) → Rising low (xs ++ n ∷ ys) → (low ≤ n + 1) × Rising (n + 1) ys
rising_tail low n [] ys h = h
rising_tail low n (x ∷ xs) ys h = let r = rising_tail (x + 1) n xs ys h.1 in (omega (arith, h.0, r.0), r.1)
