-- One CR at the end of a line.
use Rattle.gc_texts.proofs.Common.{◌≡◌, ◌≢◌, ℕ, List, [], ◌∷◌, ◌++◌, refl, ap, ◌==◌, ne_eqb, cond-false, without_cr}

-- a CR at the end is dropped
pub without_cr-end : (front : List ℕ) → without_cr (front ++ 13 ∷ []) ≡ front
without_cr-end [] = refl
without_cr-end (b ∷ []) = refl
without_cr-end (b ∷ c ∷ front) = ap (λ rest. b ∷ rest) (without_cr-end (c ∷ front))

-- nothing is dropped of a line that doesn't end in CR
pub without_cr-none : (line : List ℕ) → ((front : List ℕ) → line ≢ front ++ 13 ∷ []) → without_cr line ≡ line
without_cr-none [] none = refl
without_cr-none (b ∷ []) none = cond-false (b == 13) [] (b ∷ []) (ne_eqb b 13 (λ e. none [] (ap (λ x. x ∷ []) e)))
without_cr-none (b ∷ c ∷ line) none = ap (λ rest. b ∷ rest) (without_cr-none (c ∷ line) (λ front e. none (b ∷ front) (ap (λ rest. b ∷ rest) e)))
