-- What holds of each element, and of each two, when one is lost, comes twice, or comes at the end; and that what is lost or
-- comes twice in one of two queues is so in the whole line, the one queue and then the other. `AllPairsByRecursion R` says R of
-- each element and each one after it; `without k` is the loss of element k, and `doubled k` its repeat.
use Rattle.gc_theorems.proofs.Common.{◌≡◌, ℕ, zero, suc, ◌⊎◌, inl, inr, List, [], ◌∷◌, ◌++◌, map, refl, ap, AllByRecursion, all_append, every_front as all_front, every_behind as all_behind, without, doubled, each_without, each_doubled}
use Rattle.gc_theorems.proofs.BeginIds.{AllPairsByRecursion}

-- where Q of an element x implies P of f x, and each element of a list has Q, each element of the mapped list has P
pub each_map : {A B : Type 0} (Q : A → Type 0) (P : B → Type 0) (f : A → B) → ((x : A) → Q x → P (f x)) → (xs : List A) → AllByRecursion Q xs → AllByRecursion P (map f xs)
each_map Q P f g [] h = tt
each_map Q P f g (x ∷ xs) h = (g x h.0, each_map Q P f g xs h.1)

-- where P holds of f x for each element x of a list, P holds of each element of the mapped list
pub each_to_map : {A B : Type 0} (P : B → Type 0) (f : A → B) (xs : List A) → AllByRecursion (λ x. P (f x)) xs → AllByRecursion P (map f xs)
each_to_map P f xs h = each_map (λ x. P (f x)) P f (λ x p. p) xs h

-- what holds of every value holds of each element of a list
pub each_all : {A : Type 0} (P : A → Type 0) → ((x : A) → P x) → (xs : List A) → AllByRecursion P xs
each_all P f [] = tt
each_all P f (x ∷ xs) = (f x, each_all P f xs)

module _ {A : Type 0} where
  -- where P and Q imply R, and each element has both, each has R
  pub each_both : (P Q R : A → Type 0) → ((x : A) → P x → Q x → R x) → (xs : List A) → AllByRecursion P xs → AllByRecursion Q xs → AllByRecursion R xs
  each_both P Q R f [] h g = tt
  each_both P Q R f (x ∷ xs) h g = (f x h.0 g.0, each_both P Q R f xs h.1 g.1)

  -- `AllPairsByRecursion` is preserved if an element is lost
  pub pairs_without : (R : A → A → Type 0) (k : ℕ) (xs : List A) → AllPairsByRecursion R xs → AllPairsByRecursion R (without k xs)
  pairs_without R k [] h = tt
  pairs_without R zero (x ∷ xs) h = h.1
  pairs_without R (suc k) (x ∷ xs) h = (each_without (R x) k xs h.0, pairs_without R k xs h.1)

  -- `AllPairsByRecursion` is preserved if an element is repeated, if R holds of each element and itself
  pub pairs_doubled : (R : A → A → Type 0) → ((x : A) → R x x) → (k : ℕ) (xs : List A) → AllPairsByRecursion R xs → AllPairsByRecursion R (doubled k xs)
  pairs_doubled R same k [] h = tt
  pairs_doubled R same zero (x ∷ xs) h = ((same x, h.0), (h.0, h.1))
  pairs_doubled R same (suc k) (x ∷ xs) h = (each_doubled (R x) k xs h.0, pairs_doubled R same k xs h.1)

  -- `AllPairsByRecursion` is preserved if an element is added at the end to which every one has the relation
  pub pairs_push : (R : A → A → Type 0) (y : A) → ((x : A) → R x y) → (xs : List A) → AllPairsByRecursion R xs → AllPairsByRecursion R (xs ++ y ∷ [])
  pairs_push R y f [] h = (tt, tt)
  pairs_push R y f (x ∷ xs) h = (all_append (R x) xs (y ∷ []) h.0 (f x, tt), pairs_push R y f xs h.1)

  -- `AllPairsByRecursion` of a joined list holds of its front
  pub pairs_front : (R : A → A → Type 0) (xs ys : List A) → AllPairsByRecursion R (xs ++ ys) → AllPairsByRecursion R xs
  pairs_front R [] ys h = tt
  pairs_front R (x ∷ xs) ys h = (all_front (R x) xs ys h.0, pairs_front R xs ys h.1)

  -- `AllPairsByRecursion` of a joined list holds of its back
  pub pairs_back : (R : A → A → Type 0) (xs ys : List A) → AllPairsByRecursion R (xs ++ ys) → AllPairsByRecursion R ys
  pairs_back R [] ys h = h
  pairs_back R (x ∷ xs) ys h = pairs_back R xs ys h.1

  -- where `AllPairsByRecursion` holds, each element before y has the relation to y
  pub pairs_before : (R : A → A → Type 0) (xs : List A) (y : A) (ys : List A) → AllPairsByRecursion R (xs ++ y ∷ ys) → AllByRecursion (λ x. R x y) xs
  pairs_before R [] y ys h = tt
  pairs_before R (x ∷ xs) y ys h = ((all_behind (R x) xs (y ∷ ys) h.0).0, pairs_before R xs y ys h.1)

  -- if all elements satisfy P, and whatever satisfies P has the relation to everything, `AllPairsByRecursion` holds
  pub pairs_of_each : (P : A → Type 0) (R : A → A → Type 0) → ((x y : A) → P x → R x y) → (xs : List A) → AllByRecursion P xs → AllPairsByRecursion R xs
  pairs_of_each P R f [] h = tt
  pairs_of_each P R f (x ∷ xs) h = (each_all (R x) (λ y. f x y h.0) xs, pairs_of_each P R f xs h.1)

  -- what is lost from the back queue is lost from the line, the two queues one after the other
  pub lost_back : (k : ℕ) (xs ys : List A) → (j : ℕ) × (xs ++ without k ys ≡ without j (xs ++ ys))
  lost_back k [] ys = (k, refl)
  lost_back k (x ∷ xs) ys = let h = lost_back k xs ys in (suc h.0, ap (λ l. x ∷ l) h.1)

  -- what comes twice in the back queue comes twice in the line
  pub twice_back : (k : ℕ) (xs ys : List A) → (j : ℕ) × (xs ++ doubled k ys ≡ doubled j (xs ++ ys))
  twice_back k [] ys = (k, refl)
  twice_back k (x ∷ xs) ys = let h = twice_back k xs ys in (suc h.0, ap (λ l. x ∷ l) h.1)

  -- what is lost from the front queue is lost from the line, or nothing is lost
  pub lost_front : (k : ℕ) (xs ys : List A) → (without k xs ++ ys ≡ xs ++ ys) ⊎ (without k xs ++ ys ≡ without k (xs ++ ys))
  lost_front k [] ys = inl refl
  lost_front zero (x ∷ xs) ys = inr refl
  lost_front (suc k) (x ∷ xs) ys =
      elim (lost_front k xs ys) [
        | inl e ↦ inl (ap (λ l. x ∷ l) e)
        | inr e ↦ inr (ap (λ l. x ∷ l) e)
      ]

  -- what comes twice in the front queue comes twice in the line, or nothing does
  pub twice_front : (k : ℕ) (xs ys : List A) → (doubled k xs ++ ys ≡ xs ++ ys) ⊎ (doubled k xs ++ ys ≡ doubled k (xs ++ ys))
  twice_front k [] ys = inl refl
  twice_front zero (x ∷ xs) ys = inr refl
  twice_front (suc k) (x ∷ xs) ys =
      elim (twice_front k xs ys) [
        | inl e ↦ inl (ap (λ l. x ∷ l) e)
        | inr e ↦ inr (ap (λ l. x ∷ l) e)
      ]
