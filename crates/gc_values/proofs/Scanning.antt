-- A piece of a parameter list is scanned byte by byte up to its comma. `Scanned` says that the first i bytes of a text hold no
-- comma outside quotes, and whether they end inside quotes.
use Rattle.gc_values.proofs.Common.{◌≡◌, ℕ, ◌+◌, ◌%◌, ◌<◌, ◌≤◌, Bool, true, false, not, cond, eqb, List, ◌∷◌, ◌++◌, length, get_or, take, drop, Some, refl, sym, ap, ◌∙◌, subst, arith, take_more, take_all, take-append-drop, drop_more, quotes, quoted_after, HasCommasInQuotes, CutsPiece}
use Rattle.gc_values.proofs.Quotes.{quotes_more, HasCommasInQuotes-nil, HasCommasInQuotes-push}

-- the first i bytes hold no comma outside quotes, and `quoted` says whether they end inside quotes
pub record Scanned (text : List ℕ) (i : ℕ) (quoted : Bool) : Type 0 where
  pub keeps : HasCommasInQuotes (take i text)
  pub parity : quotes (take i text) % 2 ≡ cond quoted 1 0

-- `Scanned` is true of the first 0 bytes, which don't end inside quotes
pub scanned_none : (text : List ℕ) → Scanned text 0 false
scanned_none text = record { keeps = HasCommasInQuotes-nil; parity = refl }

-- one byte after n double quotes: `quoted` says whether n is odd, and `same` whether the byte is a double quote. Then the number
-- with that byte is odd exactly where `same` is true and `quoted` is false, or `same` is false and `quoted` is true
parity_step : (n : ℕ) (quoted same : Bool) → n % 2 ≡ cond quoted 1 0 → (n + cond same 1 0) % 2 ≡ cond (cond same (not quoted) quoted) 1 0
parity_step n true true h = omega arith
parity_step n true false h = omega arith
parity_step n false true h = omega arith
parity_step n false false h = omega arith

-- if `quoted` says whether the number n of double quotes is odd, and is true, n is odd
odd_inside : (n : ℕ) (quoted : Bool) → quoted ≡ true → n % 2 ≡ cond quoted 1 0 → n % 2 ≡ 1
odd_inside n quoted e h = h ∙ ap (λ b. cond b 1 0) e

-- `Scanned` is true of one byte more, which is no comma outside quotes
pub scanned_more : (text : List ℕ) (i : ℕ) (quoted now : Bool) → Scanned text i quoted → i < length text → (get_or text i 0 ≡ 44 → quoted ≡ true)
    → now ≡ quoted_after (get_or text i 0) quoted → Scanned text (i + 1) now
scanned_more text i quoted now s within comma step =
    let b : ℕ = get_or text i 0 in
    record {
      keeps = subst HasCommasInQuotes (sym (take_more text i 0 within)) (HasCommasInQuotes-push (take i text) b s.keeps (λ h. odd_inside (quotes (take i text)) quoted (comma h) s.parity));
      parity = ap (λ n. n % 2) (quotes_more text i within) ∙ parity_step (quotes (take i text)) quoted (eqb b 34) s.parity ∙ ap (λ q. cond q 1 0) (sym step);
    }

-- if the first i bytes were scanned and end outside quotes, and the byte at place i is a comma, the first i bytes are a piece
-- that is cut off the text
pub scanned_cut : (text : List ℕ) (i : ℕ) (quoted : Bool) → Scanned text i quoted → i < length text → get_or text i 0 ≡ 44
    → quoted ≡ false → CutsPiece text (take i text) (Some (drop (i + 1) text))
scanned_cut text i quoted s within comma outside = (
  sym (take-append-drop i text) ∙ ap (λ xs. take i text ++ xs) (drop_more text i 0 within ∙ ap (λ b. b ∷ drop (i + 1) text) comma),
  s.keeps,
  s.parity ∙ ap (λ q. cond q 1 0) outside,
)

-- a text that was scanned to its end keeps its commas within quotes
pub scanned_all : (text : List ℕ) (i : ℕ) (quoted : Bool) → Scanned text i quoted → length text ≤ i → HasCommasInQuotes text
scanned_all text i quoted s all = subst HasCommasInQuotes (take_all i text all) s.keeps
