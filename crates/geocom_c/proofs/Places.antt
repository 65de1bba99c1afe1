-- Two lists side by side, one element further. `FirstAre Is xs ys` says that the first items of `xs` go with those of `ys`, one
-- for one. An item of `xs` goes with one of `ys` if `Is` holds of the two.
use Rattle.geocom_c.proofs.Common.{◌≡◌, ℕ, zero, suc, ◌<◌, List, [], ◌∷◌, ◌++◌, length, take, subst, arith, slice_get, slice_set, FirstAre}
use Rattle.std.specs.Prelude.{Some}

module _ {A B : Type 0} (Is : A → B → Type 0) where
  -- if the first items of `xs` go with `ys`, and the next one goes with y, the first ones go with `ys` and then y
  pub first_more : (xs : List A) (ys : List B) (x : A) (y : B) → FirstAre Is xs ys → slice_get xs (length ys) ≡ Some x → Is x y → FirstAre Is xs (ys ++ y ∷ [])
  first_more [] [] x y are e is = cc
  first_more (a ∷ xs) [] x y are e is = let same : x ≡ a = cc in (subst (λ z. Is z y) same is, tt)
  first_more [] (b ∷ ys) x y are e is = absurd are
  first_more (a ∷ xs) (b ∷ ys) x y are e is = (are.0, first_more xs ys x y are.1 e is)

  -- the items at one place go together
  pub placed_together : (xs : List A) (ys : List B) (k : ℕ) (x : A) (y : B) → FirstAre Is xs ys → slice_get xs k ≡ Some x → slice_get ys k ≡ Some y → Is x y
  placed_together xs [] zero x y are e f = cc
  placed_together xs [] (suc k) x y are e f = cc
  placed_together [] (b ∷ ys) k x y are e f = absurd are
  placed_together (a ∷ xs) (b ∷ ys) zero x y are e f = let s : a ≡ x = cc in let t : b ≡ y = cc in subst (λ z. Is z y) s (subst (λ z. Is a z) t are.0)
  placed_together (a ∷ xs) (b ∷ ys) (suc k) x y are e f = placed_together xs ys k x y are.1 e f

  -- if the first items of `xs` go with the first k of `ys`, and an item that goes with item k of `ys` is written to place k of
  -- `xs`, the first items of `xs` go with the first k + 1 of `ys`
  pub first_written : (xs : List A) (ys : List B) (k : ℕ) (x : A) (y : B) → FirstAre Is xs (take k ys) → k < length xs → slice_get ys k ≡ Some y → Is x y
      → FirstAre Is (slice_set xs k x) (take (suc k) ys)
  first_written [] ys k x y are lt f is = absurd (omega (arith, lt))
  first_written (a ∷ xs) [] k x y are lt f is = cc
  first_written (a ∷ xs) (b ∷ ys) zero x y are lt f is = let t : y ≡ b = cc in (subst (λ z. Is x z) t is, tt)
  first_written (a ∷ xs) (b ∷ ys) (suc k) x y are lt f is = (are.0, first_written xs ys k x y are.1 (omega (arith, lt)) f is)

-- where `Is` implies `Be`, `FirstAre Is` implies `FirstAre Be`
pub first_are_weaker : {A B : Type 0} (Is Be : A → B → Type 0) → ((x : A) (y : B) → Is x y → Be x y) → (xs : List A) (ys : List B) → FirstAre Is xs ys → FirstAre Be xs ys
first_are_weaker Is Be step xs [] are = tt
first_are_weaker Is Be step [] (b ∷ ys) are = absurd are
first_are_weaker Is Be step (a ∷ xs) (b ∷ ys) are = (step a b are.0, first_are_weaker Is Be step xs ys are.1)
