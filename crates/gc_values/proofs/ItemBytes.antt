-- How many bytes texts have together (`total_length`): the first of them, and the items of a parameter list.
use Rattle.gc_values.proofs.Common.{◌≡◌, ℕ, zero, suc, ◌+◌, ◌<◌, ◌≤◌, List, [], ◌∷◌, ◌++◌, length, take, replicate, get_or, ap, arith, length-append, flat_map, IsParams, ArePieces, joined, total_length}

-- the first k + 1 texts have the bytes of the first k, and those of the next one
pub total_length_next : (texts : List (List ℕ)) (k : ℕ) → k < length texts → total_length (take (suc k) texts) ≡ total_length (take k texts) + length (get_or texts k [])
total_length_next [] k lt = absurd (omega (arith, lt))
total_length_next (t ∷ texts) zero lt = omega arith
total_length_next (t ∷ texts) (suc k) lt = omega (arith, total_length_next texts k (omega (arith, lt)))

-- the first k texts have no more bytes than all
pub total_length_front : (texts : List (List ℕ)) (k : ℕ) → total_length (take k texts) ≤ total_length texts
total_length_front [] zero = omega arith
total_length_front [] (suc k) = omega arith
total_length_front (t ∷ texts) zero = omega arith
total_length_front (t ∷ texts) (suc k) = omega (arith, total_length_front texts k)

-- items have no more bytes than the pieces, which are the items with any spaces round each
items_within_pieces : (pieces items : List (List ℕ)) → ArePieces pieces items → total_length items ≤ total_length pieces
items_within_pieces [] [] are = omega arith
items_within_pieces [] (i ∷ items) are = absurd are
items_within_pieces (p ∷ pieces) [] are = absurd are
items_within_pieces (p ∷ pieces) (i ∷ items) are =
    let is = are.0 in
    let n = ap length is.piece_is in
    omega (arith, n, length-append (replicate is.before 32) (i ++ replicate is.behind 32), length-append i (replicate is.behind 32), items_within_pieces pieces items are.2)

-- texts have no more bytes than the same texts with a comma (44) before each
texts_within_commas : (ts : List (List ℕ)) → total_length ts ≤ length (flat_map (λ (u : List ℕ). 44 ∷ u) ts)
texts_within_commas [] = omega arith
texts_within_commas (t ∷ ts) = omega (arith, texts_within_commas ts, length-append (44 ∷ t) (flat_map (λ (u : List ℕ). 44 ∷ u) ts))

-- texts have no more bytes than the same texts joined by commas
texts_within_joined : (ts : List (List ℕ)) → total_length ts ≤ length (joined ts)
texts_within_joined [] = omega arith
texts_within_joined (t ∷ ts) = omega (arith, texts_within_commas ts, length-append t (flat_map (λ (u : List ℕ). 44 ∷ u) ts))

-- the items of a parameter list have no more bytes than the list
pub items_within_params : (params : List ℕ) (items : List (List ℕ)) → IsParams params items → total_length items ≤ length params
items_within_params params [] is = omega arith
items_within_params params (i ∷ items) is =
    let n = ap length is.bytes_are in
    omega (arith, n, texts_within_joined is.pieces, items_within_pieces is.pieces (i ∷ items) is.pieces_are)
