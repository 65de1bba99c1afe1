-- The lines of settlements, one more after those before it.
use Rattle.gc_texts.proofs.Common.{◌≡◌, ◌+◌, ◌<◌, ℕ, List, [], ◌∷◌, ◌++◌, take, drop, map, get_or, length, sym, ap, ◌∙◌, arith, append_assoc, append-nil, length-map, map_push, take_more, length-take, Call, Settlement, settlement_seen, settlement_line, settlement_lines_from, settlement_lines}
use Rattle.gc_texts.proofs.Cutting.{split_place}
use Rattle.gc_client.specs.Rule

-- where x is the item at place i of a list, the first i + 1 items are the first i and x, and the list is these and what
-- follows them
pub split_at_item : {A : Type 0} (xs : List A) (i : ℕ) (x : A) → i < length xs → x ≡ get_or xs i x
    → (take (i + 1) xs ≡ take i xs ++ x ∷ []) × (xs ≡ take i xs ++ x ∷ drop (i + 1) xs)
split_at_item xs i x below is = (
  take_more xs i x below ∙ ap (λ y. take i xs ++ y ∷ []) (sym is),
  split_place xs i x x below (sym is),
)

-- the lines of settlements and of one more after them (s), numbered from `from` on, are those of the settlements, and then that
-- of s with the number from + length before
pub lines_of_one_more : (from : ℕ) (before : List (Rule.Settlement Call)) (s : Rule.Settlement Call)
    → settlement_lines_from from (before ++ s ∷ []) ≡ settlement_lines_from from before ++ settlement_line (from + length before) s
lines_of_one_more from [] s = append-nil (settlement_line from s) ∙ ap (λ place. settlement_line place s) (omega arith)
lines_of_one_more from (x ∷ before) s =
    let later : List ℕ = settlement_lines_from (from + 1) before in
    let place : from + 1 + length before ≡ from + length (x ∷ before) = omega arith in
    ap (λ l. settlement_line from x ++ l) (lines_of_one_more (from + 1) before s ∙ ap (λ p. later ++ settlement_line p s) place)
    ∙ sym (append_assoc (settlement_line from x) later (settlement_line (from + length (x ∷ before)) s))

-- where there is a settlement at place i, the first i settlements are i in number
pub front_length : (ss : List (Settlement Call)) (i : ℕ) → i < length ss → length (map settlement_seen (take i ss)) ≡ i
front_length ss i below = length-map (take i ss) settlement_seen ∙ omega (arith, length-take i ss, below)

-- the lines of the first i + 1 settlements, numbered from `place` on, are those of the first i, and that of the next one (s)
pub lines_to_next : (place : ℕ) (ss : List (Settlement Call)) (i : ℕ) (s : Settlement Call) → i < length ss → s ≡ get_or ss i s
    → settlement_lines_from place (map settlement_seen (take (i + 1) ss))
    ≡ settlement_lines_from place (map settlement_seen (take i ss)) ++ settlement_line (place + i) (settlement_seen s)
lines_to_next place ss i s below is =
    let front = map settlement_seen (take i ss) in
    ap (λ xs. settlement_lines_from place (map settlement_seen xs)) (split_at_item ss i s below is).0 ∙ ap (settlement_lines_from place) (map_push settlement_seen (take i ss) s)
    ∙ lines_of_one_more place front (settlement_seen s) ∙ ap (λ n. settlement_lines_from place front ++ settlement_line (place + n) (settlement_seen s)) (front_length ss i below)

-- where the lines of the first i settlements were appended to a text, and then that of the next, the lines of the first i + 1
-- were
pub appended_next :
    (ss : List (Settlement Call)) (i : ℕ) (s : Settlement Call) (old mid new : List ℕ) → i < length ss → s ≡ get_or ss i s →
    mid ≡ old ++ settlement_lines (map settlement_seen (take i ss)) → new ≡ mid ++ settlement_line i (settlement_seen s) →
    new ≡ old ++ settlement_lines (map settlement_seen (take (i + 1) ss))
appended_next ss i s old mid new below is so one =
    let front = map settlement_seen (take i ss) in
    let zero : 0 + i ≡ i = omega arith in
    let lines : settlement_lines (map settlement_seen (take (i + 1) ss)) ≡ settlement_lines front ++ settlement_line i (settlement_seen s) =
    lines_to_next 0 ss i s below is ∙ ap (λ p. settlement_lines front ++ settlement_line p (settlement_seen s)) zero in
    one ∙ ap (λ l. l ++ settlement_line i (settlement_seen s)) so ∙ append_assoc old (settlement_lines front) (settlement_line i (settlement_seen s)) ∙ ap (λ l. old ++ l) (sym lines)
