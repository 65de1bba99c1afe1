-- Double quotes in a text are counted, and commas are kept within quotes: each comma has an odd number of double quotes before it
-- (`HasCommasInQuotes`).
use Rattle.gc_values.proofs.Common.{◌≡◌, ◌≢◌, ℕ, zero, suc, ◌+◌, ◌%◌, ◌<◌, ◌⊎◌, false, cond, eqb, List, [], ◌∷◌, ◌++◌, length, get_or, take, replicate, refl, sym, ap, ◌∙◌, subst, inl, inr, arith, zero-add, ne_eqb, AllByRecursion, quotes, HasCommasInQuotes}
use Rattle.std.proofs.lemmas.List.Sums.{sum_by-append, sum_by-cons, sum_by_more}

-- what a byte adds to the number of double quotes: 1 or 0
abbrev quote_count : ℕ → ℕ
quote_count b = cond (eqb b 34) 1 0

-- two texts in a row have as many double quotes as both have together
pub quotes-append : (xs ys : List ℕ) → quotes (xs ++ ys) ≡ quotes xs + quotes ys
quotes-append xs ys = sum_by-append quote_count xs ys

-- a byte in front adds 1 to the number of double quotes if it is one, else 0
pub quotes-cons : (b : ℕ) (bs : List ℕ) → quotes (b ∷ bs) ≡ cond (eqb b 34) 1 0 + quotes bs
quotes-cons b bs = sum_by-cons quote_count b bs

-- the next byte adds 1 to the number of double quotes in the first i bytes if it is one, else 0
pub quotes_more : (xs : List ℕ) (i : ℕ) → i < length xs → quotes (take (i + 1) xs) ≡ quotes (take i xs) + cond (eqb (get_or xs i 0) 34) 1 0
quotes_more xs i h = sum_by_more quote_count xs i 0 h

-- a byte other than a double quote adds none
pub quotes_same : (b : ℕ) (bs : List ℕ) → eqb b 34 ≡ false → quotes (b ∷ bs) ≡ quotes bs
quotes_same b bs e = quotes-cons b bs ∙ ap (λ c. cond c 1 0 + quotes bs) e ∙ zero-add (quotes bs)

-- bytes of which none is a double quote have no double quotes
pub quotes-none : (bs : List ℕ) → AllByRecursion (λ b. b ≢ 34) bs → quotes bs ≡ 0
quotes-none [] h = refl
quotes-none (b ∷ bs) h = quotes_same b bs (ne_eqb b 34 h.0) ∙ quotes-none bs h.1

-- spaces have no double quotes
pub quotes-spaces : (n : ℕ) → quotes (replicate n 32) ≡ 0
quotes-spaces zero = refl
quotes-spaces (suc n) = quotes_same 32 (replicate n 32) refl ∙ quotes-spaces n

-- the empty list is no list with an element in it
pub empty_has_none : (front rest : List ℕ) (b : ℕ) → [] ≡ front ++ b ∷ rest → ⊥
empty_has_none [] rest b e = cc
empty_has_none (f ∷ fs) rest b e = cc

-- if xs and then b are cut at a comma into `front` and `rest`, b is that comma, and `front` is xs, or xs has a comma after
-- `front`
pub push_cut : (xs front rest : List ℕ) (b : ℕ) → xs ++ b ∷ [] ≡ front ++ 44 ∷ rest
    → ((b ≡ 44) × (front ≡ xs)) ⊎ ((r : List ℕ) × (xs ≡ front ++ 44 ∷ r))
push_cut [] [] rest b e = let h : b ≡ 44 = cc in inl (h, refl)
push_cut [] (f ∷ fs) rest b e = let t : [] ≡ fs ++ 44 ∷ rest = cc in absurd (empty_has_none fs rest 44 t)
push_cut (x ∷ xs) [] rest b e = let h : x ∷ xs ≡ 44 ∷ xs = cc in inr (xs, h)
push_cut (x ∷ xs) (f ∷ fs) rest b e =
    let head : x ≡ f = cc in
    let tail : xs ++ b ∷ [] ≡ fs ++ 44 ∷ rest = cc in
    elim (push_cut xs fs rest b tail) [
      | inl h ↦ inl (h.0, let s = h.1 in cc)
      | inr h ↦ inr (h.0, let s = h.1 in cc)
    ]

-- the empty list keeps its commas within quotes
pub HasCommasInQuotes-nil : HasCommasInQuotes []
HasCommasInQuotes-nil front rest e = absurd (empty_has_none front rest 44 e)

-- one byte more, which is no comma outside quotes, keeps the commas within quotes
pub HasCommasInQuotes-push : (xs : List ℕ) (b : ℕ) → HasCommasInQuotes xs → (b ≡ 44 → quotes xs % 2 ≡ 1) → HasCommasInQuotes (xs ++ b ∷ [])
HasCommasInQuotes-push xs b keeps comma front rest e = elim (push_cut xs front rest b e) [
  | inl h ↦ subst (λ ys. quotes ys % 2 ≡ 1) (sym h.1) (comma h.0)
  | inr h ↦ keeps front h.0 h.1
]

-- two cuts of one text at a comma are the same, or the comma of one is before that of the other
pub cuts_compare : (xs ys us vs : List ℕ) → xs ++ 44 ∷ us ≡ ys ++ 44 ∷ vs
    → ((xs ≡ ys) × (us ≡ vs)) ⊎ (((r : List ℕ) × (xs ≡ ys ++ 44 ∷ r)) ⊎ ((r : List ℕ) × (ys ≡ xs ++ 44 ∷ r)))
cuts_compare [] [] us vs e = let h : us ≡ vs = cc in inl (refl, h)
cuts_compare [] (y ∷ ys) us vs e = let h : y ∷ ys ≡ 44 ∷ ys = cc in inr (inr (ys, h))
cuts_compare (x ∷ xs) [] us vs e = let h : x ∷ xs ≡ 44 ∷ xs = cc in inr (inl (xs, h))
cuts_compare (x ∷ xs) (y ∷ ys) us vs e =
    let head : x ≡ y = cc in
    let tail : xs ++ 44 ∷ us ≡ ys ++ 44 ∷ vs = cc in
    elim (cuts_compare xs ys us vs tail) [
      | inl h ↦ inl (let s = h.0 in cc, h.1)
      | inr (inl h) ↦ inr (inl (h.0, let s = h.1 in cc))
      | inr (inr h) ↦ inr (inr (h.0, let s = h.1 in cc))
    ]

-- if commas in xs are within quotes, and ys has its quotes in pairs, ys isn't what comes before a comma of xs
pub even_not_before_comma : (xs ys vs : List ℕ) → HasCommasInQuotes xs → quotes ys % 2 ≡ 0 → xs ≡ ys ++ 44 ∷ vs → ⊥
even_not_before_comma xs ys vs keeps even e = let odd = keeps ys vs e in omega (arith, odd, even)

-- a piece between commas: its quotes are in pairs, and each comma is inside a pair
pub record IsPiece (piece : List ℕ) : Type 0 where
  pub keeps : HasCommasInQuotes piece
  pub even : quotes piece % 2 ≡ 0

-- a text is cut at a comma in at most one way into a piece and what follows the comma
pub one_comma_cut : (xs ys us vs : List ℕ) → IsPiece xs → IsPiece ys → xs ++ 44 ∷ us ≡ ys ++ 44 ∷ vs → (xs ≡ ys) × (us ≡ vs)
one_comma_cut xs ys us vs x y e = elim (cuts_compare xs ys us vs e) [
  | inl h ↦ h
  | inr (inl h) ↦ absurd (even_not_before_comma xs ys h.0 x.keeps y.even h.1)
  | inr (inr h) ↦ absurd (even_not_before_comma ys xs h.0 y.keeps x.even h.1)
]
