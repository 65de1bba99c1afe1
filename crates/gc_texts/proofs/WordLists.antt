-- The pieces of a text, cut off one after the other at the first mark.
use Rattle.gc_texts.proofs.Common.{◌≡◌, ℕ, ◌==◌, ◌≤◌, ◌+◌, List, [], ◌∷◌, ◌++◌, length, Option, Some, None, refl, ap, ◌∙◌, arith, cond-true, cond-false, cond_both, ne_eqb, eq-eqb, Lacks, Cuts, with_front, pieces_of, pieces_left}

-- a text without the mark is one piece
pub words_lacking : (mark : ℕ) (word : List ℕ) → Lacks mark word → pieces_of mark word ≡ word ∷ []
words_lacking mark [] lacks = refl
words_lacking mark (b ∷ bs) lacks =
    cond-false (b == mark) ([] ∷ pieces_of mark bs) (with_front b (pieces_of mark bs)) (ne_eqb b mark lacks.0) ∙ ap (with_front b) (words_lacking mark bs lacks.1)

-- where a text is a piece without the mark, then the mark, and then a rest, its pieces are this piece and those of the rest
pub words_behind : (mark : ℕ) (word rest : List ℕ) → Lacks mark word → pieces_of mark (word ++ mark ∷ rest) ≡ word ∷ pieces_of mark rest
words_behind mark [] rest lacks = cond-true (mark == mark) ([] ∷ pieces_of mark rest) (with_front mark (pieces_of mark rest)) (eq-eqb mark mark refl)
words_behind mark (b ∷ bs) rest lacks =
    cond-false (b == mark) ([] ∷ pieces_of mark (bs ++ mark ∷ rest)) (with_front b (pieces_of mark (bs ++ mark ∷ rest))) (ne_eqb b mark lacks.0)
    ∙ ap (with_front b) (words_behind mark bs rest lacks.1)

-- where a text is cut at its first mark, its pieces are the one before it and those of the rest
pub words_cut : (mark : ℕ) (text word : List ℕ) (rest : Option (List ℕ)) → Cuts mark text word rest → pieces_of mark text ≡ word ∷ pieces_left mark rest
words_cut mark text word None cut = ap (pieces_of mark) cut.0 ∙ words_lacking mark word cut.1
words_cut mark text word (Some rest) cut = ap (pieces_of mark) cut.0 ∙ words_behind mark word rest cut.1

-- a byte before the first piece leaves as many
front_keeps_count : (b : ℕ) (pieces : List (List ℕ)) → length (with_front b pieces) ≡ length pieces
front_keeps_count b [] = refl
front_keeps_count b (piece ∷ pieces) = refl

-- a text has at most one piece more than bytes
pub pieces_few : (mark : ℕ) (text : List ℕ) → length (pieces_of mark text) ≤ length text + 1
pieces_few mark [] = omega arith
pieces_few mark (b ∷ bs) =
    let few = pieces_few mark bs in
    cond_both (b == mark) ([] ∷ pieces_of mark bs) (with_front b (pieces_of mark bs)) (λ ps. length ps ≤ length (b ∷ bs) + 1)
    (λ _. omega (arith, few)) (λ _. omega (arith, few, front_keeps_count b (pieces_of mark bs)))
