-- Null procedures that are answered, one after the other, none of them by its own reply: of the word's ids at most two are answered by old
-- lines.
use Rattle.gc_theorems.proofs.Common.{◌≡◌, ◌⊎◌, ℕ, zero, suc, ◌+◌, ◌%◌, ◌<◌, ◌≤◌, inl, inr, List, [], ◌∷◌, arith, ⊤, WINDOW, IDS, the_word}

-- null procedures with these ids are answered falsely: each by an old line with its id, whose number is at least that of the one that
-- answered last (`low`), and at most `high`; or by one of so many damaged lines (`damaged`)
abbrev pub AreAnsweredFalsely : (word : List ℕ) → (low high damaged : ℕ) → Type 0
AreAnsweredFalsely [] low high damaged = ⊤
AreAnsweredFalsely (w ∷ ws) low high damaged =
    ((n : ℕ) × (low ≤ n) × (n ≤ high) × (n % IDS ≡ w) × AreAnsweredFalsely ws n high damaged)
    ⊎ ((rest : ℕ) × (damaged ≡ rest + 1) × AreAnsweredFalsely ws low high rest)

-- the ids from i - 1 down to 0, and then 7
abbrev down_word : ℕ → List ℕ
down_word zero = 7 ∷ []
down_word (suc i) = i ∷ down_word i

-- after two old lines, with the ids a and then b, no further one answers
after_two : (i a b first second high damaged : ℕ) → i ≤ b → b < a → a < 7 → first % IDS ≡ a → second % IDS ≡ b → first ≤ second → high ≤ first + 7
    → AreAnsweredFalsely (down_word i) second high damaged → i + 1 ≤ damaged
after_two zero a b first second high damaged h1 h2 h3 h4 h5 h6 h7 (inl old) =
    let n = old.0 in
    let e1 = old.1 in let e2 = old.2 in let e3 = old.3 in
    absurd (omega (arith, h2, h3, h4, h5, h6, h7, e1, e2, e3))
after_two zero a b first second high damaged h1 h2 h3 h4 h5 h6 h7 (inr broken) = let e = broken.1 in omega (arith, e)
after_two (suc i) a b first second high damaged h1 h2 h3 h4 h5 h6 h7 (inl old) =
    let n = old.0 in
    let e1 = old.1 in let e2 = old.2 in let e3 = old.3 in
    absurd (omega (arith, h1, h2, h3, h4, h5, h6, h7, e1, e2, e3))
after_two (suc i) a b first second high damaged h1 h2 h3 h4 h5 h6 h7 (inr broken) =
    let e = broken.1 in
    let less = after_two i a b first second high broken.0 (omega (arith, h1)) h2 h3 h4 h5 h6 h7 broken.2 in
    omega (arith, e, less)

-- after one old line, with the id a, at most one further one answers
after_one : (i a first high damaged : ℕ) → i ≤ a → a < 7 → first % IDS ≡ a → high ≤ first + 7 → AreAnsweredFalsely (down_word i) first high damaged → i + 1 ≤ damaged + 1
after_one zero a first high damaged h1 h2 h3 h4 h = omega arith
after_one (suc i) a first high damaged h1 h2 h3 h4 (inl old) =
    let less = after_two i a i first old.0 high damaged (omega arith) (omega (arith, h1)) h2 h3 old.3 old.1 h4 old.4 in
    omega (arith, less)
after_one (suc i) a first high damaged h1 h2 h3 h4 (inr broken) =
    let e = broken.1 in
    let less = after_one i a first high broken.0 (omega (arith, h1)) h2 h3 h4 broken.2 in
    omega (arith, e, less)

-- at most two old lines answer
after_none : (i low high damaged : ℕ) → i ≤ 7 → high ≤ low + 7 → AreAnsweredFalsely (down_word i) low high damaged → i + 1 ≤ damaged + 2
after_none zero low high damaged h1 h2 h = omega arith
after_none (suc i) low high damaged h1 h2 (inl old) =
    let e = old.1 in
    let less = after_one i i old.0 high damaged (omega arith) (omega (arith, h1)) old.3 (omega (arith, e, h2)) old.4 in
    omega (arith, less)
after_none (suc i) low high damaged h1 h2 (inr broken) =
    let e = broken.1 in
    let less = after_none i low high broken.0 (omega (arith, h1)) h2 broken.2 in
    omega (arith, e, less)

-- it takes six damaged lines at least to answer the word falsely
pub six_at_least : (low damaged : ℕ) → AreAnsweredFalsely the_word low (low + WINDOW) damaged → 6 ≤ damaged
six_at_least low damaged h = let less = after_none 7 low (low + WINDOW) damaged (omega arith) (omega arith) h in omega (arith, less)
