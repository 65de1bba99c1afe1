-- What is before the first mark of a text, and what follows it. A mark is a byte, as LF or a space.
use Rattle.gc_texts.proofs.Common.{Bool, true, false, if◌then◌else◌, ◌≡◌, ℕ, ◌==◌, List, [], ◌∷◌, ◌++◌, Option, Some, None, unwrap_or, refl, sym, ap, ◌∙◌, cond-true, cond-false, eq-eqb, eqb-false, ne_eqb, Lacks, Cuts, before, behind}

-- in a text that is a front without the mark, then the mark, and then a rest, what is before the first mark is the front
pub before_mark : (mark : ℕ) (front rest : List ℕ) → Lacks mark front → before mark (front ++ mark ∷ rest) ≡ front
before_mark mark [] rest lacks = cond-true (mark == mark) [] (mark ∷ before mark rest) (eq-eqb mark mark refl)
before_mark mark (b ∷ bs) rest lacks =
    cond-false (b == mark) [] (b ∷ before mark (bs ++ mark ∷ rest)) (ne_eqb b mark lacks.0) ∙ ap (λ l. b ∷ l) (before_mark mark bs rest lacks.1)

-- in a text that is a front without the mark, then the mark, and then a rest, what follows the first mark is the rest
pub behind_mark : (mark : ℕ) (front rest : List ℕ) → Lacks mark front → behind mark (front ++ mark ∷ rest) ≡ rest
behind_mark mark [] rest lacks = cond-true (mark == mark) rest (behind mark rest) (eq-eqb mark mark refl)
behind_mark mark (b ∷ bs) rest lacks =
    cond-false (b == mark) (bs ++ mark ∷ rest) (behind mark (bs ++ mark ∷ rest)) (ne_eqb b mark lacks.0) ∙ behind_mark mark bs rest lacks.1

-- what is before the first mark has none
pub before_lacks : (mark : ℕ) (text : List ℕ) → Lacks mark (before mark text)
before_lacks mark [] = tt
before_lacks mark (b ∷ bs) = by_test (b == mark) refl (before_lacks mark bs) where
  -- the lemma above, by whether the first byte is the mark (`z`)
  by_test : (z : Bool) → (b == mark) ≡ z → Lacks mark (before mark bs) → Lacks mark (if z then [] else b ∷ before mark bs)
  by_test true e more = tt
  by_test false e more = (eqb-false b mark e, more)

-- of a text without the mark, all of it counts as before the first mark
pub before_none : (mark : ℕ) (text : List ℕ) → Lacks mark text → before mark text ≡ text
before_none mark [] lacks = refl
before_none mark (b ∷ bs) lacks = cond-false (b == mark) [] (b ∷ before mark bs) (ne_eqb b mark lacks.0) ∙ ap (λ l. b ∷ l) (before_none mark bs lacks.1)

-- of a text without the mark, nothing follows the first mark
pub behind_none : (mark : ℕ) (text : List ℕ) → Lacks mark text → behind mark text ≡ []
behind_none mark [] lacks = refl
behind_none mark (b ∷ bs) lacks = cond-false (b == mark) bs (behind mark bs) (ne_eqb b mark lacks.0) ∙ behind_none mark bs lacks.1

-- the front of a cut is what is before the first mark
pub cut_before : (mark : ℕ) (text front : List ℕ) (rest : Option (List ℕ)) → Cuts mark text front rest → front ≡ before mark text
cut_before mark text front None cut = sym (ap (before mark) cut.0 ∙ before_none mark front cut.1)
cut_before mark text front (Some rest) cut = sym (ap (before mark) cut.0 ∙ before_mark mark front rest cut.1)

-- the rest of a cut, the empty text for `None`, is what follows the first mark, which is empty, too, where there is no mark
pub cut_behind : (mark : ℕ) (text front : List ℕ) (rest : Option (List ℕ)) → Cuts mark text front rest → unwrap_or rest [] ≡ behind mark text
cut_behind mark text front None cut = sym (ap (behind mark) cut.0 ∙ behind_none mark front cut.1)
cut_behind mark text front (Some rest) cut = sym (ap (behind mark) cut.0 ∙ behind_mark mark front rest cut.1)
