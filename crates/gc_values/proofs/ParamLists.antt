-- A parameter list is split at its commas in one way. A piece is what is between two commas, and an item is a piece without
-- the spaces at its ends. `HasPieces` says of a text that it is pieces joined by commas, each of them a parameter with any
-- spaces round it.
use Rattle.gc_values.proofs.Common.{◌≡◌, ℕ, ◌+◌, ◌%◌, ◌<◌, List, [], ◌∷◌, ◌++◌, length, Some, None, refl, sym, ap, ◌∙◌, subst, inl, inr, arith, length-append, append_assoc, append-nil, cases_eq, AllByRecursion, quotes, AreSpaces, HasCommasInQuotes, IsParam, IsPadded, ArePieces, joined, AreJoined, IsParams, CutsPiece, IsTrimmed, without_front_spaces, without_end_spaces}
use Rattle.gc_values.proofs.Quotes.{IsPiece, quotes-append, quotes_same, quotes-spaces, HasCommasInQuotes-nil, HasCommasInQuotes-push, even_not_before_comma, one_comma_cut}
use Rattle.gc_values.proofs.Trimming.{HasCommasInQuotes-padded, quotes-padded, trimmed_is_param, param_is_trimmed, one_trimmed, trimmed_exists, front_not_spaces}

-- a parameter with spaces round it is a piece
padded_piece : (piece item : List ℕ) → IsPadded piece item → IsParam item → IsPiece piece
padded_piece piece item p h = record { keeps = HasCommasInQuotes-padded piece item p h; even = let same = quotes-padded piece item p in let even = h.pairs in omega (arith, same, even) }

-- parameters with spaces round them are pieces
pub pieces_of : (ps is : List (List ℕ)) → ArePieces ps is → AllByRecursion IsPiece ps
pieces_of [] [] h = tt
pieces_of [] (i ∷ is) h = absurd h
pieces_of (p ∷ ps) [] h = absurd h
pieces_of (p ∷ ps) (i ∷ is) h = (padded_piece p i h.0 h.1, pieces_of ps is h.2)

-- padded parameters after padded parameters are padded parameters
pub ArePieces-append : (ps is qs js : List (List ℕ)) → ArePieces ps is → ArePieces qs js → ArePieces (ps ++ qs) (is ++ js)
ArePieces-append [] [] qs js h k = k
ArePieces-append [] (i ∷ is) qs js h k = absurd h
ArePieces-append (p ∷ ps) [] qs js h k = absurd h
ArePieces-append (p ∷ ps) (i ∷ is) qs js h k = (h.0, h.1, ArePieces-append ps is qs js h.2 k)

-- pieces, each with the comma after it, and then the rest
abbrev pub each_with_comma : (pieces : List (List ℕ)) → (rest : List ℕ) → List ℕ
each_with_comma [] rest = rest
each_with_comma (p ∷ ps) rest = p ++ 44 ∷ each_with_comma ps rest

-- joined pieces are the first ones, each with a comma after it, and then the others joined
pub joined-append : (ps : List (List ℕ)) (q : List ℕ) (qs : List (List ℕ)) → joined (ps ++ q ∷ qs) ≡ each_with_comma ps (joined (q ∷ qs))
joined-append [] q qs = refl
joined-append (p ∷ []) q qs = refl
joined-append (p ∷ r ∷ rs) q qs = ap (λ xs. p ++ 44 ∷ xs) (joined-append (r ∷ rs) q qs)

-- `each_with_comma` of the pieces ps and then p, and a rest, is `each_with_comma` of ps, and then p, a comma and the rest
pub each_with_comma-push : (ps : List (List ℕ)) (p rest : List ℕ) → each_with_comma (ps ++ p ∷ []) rest ≡ each_with_comma ps (p ++ 44 ∷ rest)
each_with_comma-push [] p rest = refl
each_with_comma-push (q ∷ qs) p rest = ap (λ xs. q ++ 44 ∷ xs) (each_with_comma-push qs p rest)

-- a text, a comma and a text have as many double quotes as the two texts have together
quotes-comma : (xs ys : List ℕ) → quotes (xs ++ 44 ∷ ys) ≡ quotes xs + quotes ys
quotes-comma xs ys = quotes-append xs (44 ∷ ys) ∙ ap (λ n. quotes xs + n) (quotes_same 44 ys refl)

-- joined pieces have their quotes in pairs
joined_even : (ps : List (List ℕ)) → AllByRecursion IsPiece ps → quotes (joined ps) % 2 ≡ 0
joined_even [] h = refl
joined_even (p ∷ []) h = ap (λ xs. quotes xs % 2) (append-nil p) ∙ h.0.even
joined_even (p ∷ q ∷ qs) h =
    let rest = joined_even (q ∷ qs) h.1 in
    let first = h.0.even in
    let both = quotes-comma p (joined (q ∷ qs)) in
    omega (arith, rest, first, both)

-- a parameter list has its quotes in pairs
pub params_even : (bytes : List ℕ) (items : List (List ℕ)) → IsParams bytes items → quotes bytes % 2 ≡ 0
params_even bytes [] h = ap (λ xs. quotes xs % 2) h.1 ∙ ap (λ n. n % 2) (quotes-spaces h.0)
params_even bytes (i ∷ is) h = ap (λ xs. quotes xs % 2) h.bytes_are ∙ joined_even h.pieces (pieces_of h.pieces (i ∷ is) h.pieces_are)

-- two lists of pieces, at least one in each, that join to the same text are equal
same_pieces : (p q : List ℕ) (ps qs : List (List ℕ)) → AllByRecursion IsPiece (p ∷ ps) → AllByRecursion IsPiece (q ∷ qs)
    → joined (p ∷ ps) ≡ joined (q ∷ qs) → p ∷ ps ≡ q ∷ qs
same_pieces p q [] [] hp hq e = ap (λ xs. xs ∷ []) (sym (append-nil p) ∙ e ∙ append-nil q)
same_pieces p q [] (r ∷ rs) hp hq e = absurd (even_not_before_comma p q (joined (r ∷ rs)) hp.0.keeps hq.0.even (sym (append-nil p) ∙ e))
same_pieces p q (r ∷ rs) [] hp hq e = absurd (even_not_before_comma q p (joined (r ∷ rs)) hq.0.keeps hp.0.even (sym (append-nil q) ∙ sym e))
same_pieces p q (r ∷ rs) (s ∷ ss) hp hq e =
    let cut = one_comma_cut p q (joined (r ∷ rs)) (joined (s ∷ ss)) hp.0 hq.0 e in
    let first = cut.0 in
    let rest = same_pieces r s rs ss hp.1 hq.1 cut.1 in
    cc

-- two lists of parameters with the same pieces are equal
same_items : (ps is js : List (List ℕ)) → ArePieces ps is → ArePieces ps js → is ≡ js
same_items [] [] [] h k = refl
same_items [] [] (j ∷ js) h k = absurd k
same_items [] (i ∷ is) js h k = absurd h
same_items (p ∷ ps) [] js h k = absurd h
same_items (p ∷ ps) (i ∷ is) [] h k = absurd k
same_items (p ∷ ps) (i ∷ is) (j ∷ js) h k =
    let first = one_trimmed p i j (param_is_trimmed p i h.0 h.1) (param_is_trimmed p j k.0 k.1) in
    let rest = same_items ps is js h.2 k.2 in
    cc

-- two lists of parameters, at least one in each, whose pieces join to the same text are equal
one_joined : (ps is qs js : List (List ℕ)) (i j : List ℕ) → ArePieces ps (i ∷ is) → ArePieces qs (j ∷ js) → joined ps ≡ joined qs → i ∷ is ≡ j ∷ js
one_joined [] is qs js i j h k e = absurd h
one_joined (p ∷ ps) is [] js i j h k e = absurd k
one_joined (p ∷ ps) is (q ∷ qs) js i j h k e =
    let same = same_pieces p q ps qs (pieces_of (p ∷ ps) (i ∷ is) h) (pieces_of (q ∷ qs) (j ∷ js) k) e in
    same_items (p ∷ ps) (i ∷ is) (j ∷ js) h (subst (λ rs. ArePieces rs (j ∷ js)) (sym same) k)

-- a text splits into at most one list of parameters
pub one_list : (bytes : List ℕ) (xs ys : List (List ℕ)) → IsParams bytes xs → IsParams bytes ys → xs ≡ ys
one_list bytes [] [] h k = refl
one_list bytes [] (y ∷ ys) h k = absurd (k.some h)
one_list bytes (x ∷ xs) [] h k = absurd (h.some k)
one_list bytes (x ∷ xs) (y ∷ ys) h k = one_joined h.pieces xs k.pieces ys x y h.pieces_are k.pieces_are (sym h.bytes_are ∙ k.bytes_are)

-- the text is one piece, and others after commas, and each piece is a parameter with any spaces round it
pub record HasPieces (text : List ℕ) : Type 0 where
  pub first : List ℕ
  pub others : List (List ℕ)
  pub item : List ℕ
  pub items : List (List ℕ)
  pub text_is : text ≡ joined (first ∷ others)
  pub are : ArePieces (first ∷ others) (item ∷ items)

-- `HasPieces` is true of a piece alone
one_piece : (piece : List ℕ) → IsPiece piece → HasPieces piece
one_piece piece is =
    let t = trimmed_exists piece in
    record {
      first = piece;
      others = [];
      item = without_end_spaces (without_front_spaces piece);
      items = [];
      text_is = sym (append-nil piece);
      are = (t.padded, trimmed_is_param piece _ t is, tt);
    }

-- `HasPieces` is true of a piece, a comma and a text of which it is true
more_pieces : (piece rest : List ℕ) → IsPiece piece → HasPieces rest → HasPieces (piece ++ 44 ∷ rest)
more_pieces piece rest is r =
    let t = trimmed_exists piece in
    record {
      first = piece;
      others = r.first ∷ r.others;
      item = without_end_spaces (without_front_spaces piece);
      items = r.item ∷ r.items;
      text_is =
          ap (λ xs. piece ++ 44 ∷ xs) r.text_is;
      are = (t.padded, trimmed_is_param piece _ t is, r.are);
    }

-- if a text's quotes are in pairs, and those before one of its commas are, those after that comma are, too
even_behind : (xs ys : List ℕ) → quotes xs % 2 ≡ 0 → quotes (xs ++ 44 ∷ ys) % 2 ≡ 0 → quotes ys % 2 ≡ 0
even_behind xs ys first both = let sum = quotes-comma xs ys in omega (arith, first, both, sum)

-- no number is even and odd
pub even_not_odd : (n : ℕ) → n % 2 ≡ 0 → n % 2 ≡ 1 → ⊥
even_not_odd n e o = omega arith

-- a number that isn't even is odd
pub not_even_is_odd : (n : ℕ) → (n % 2 ≡ 0 → ⊥) → n % 2 ≡ 1
not_even_is_odd n h = omega (arith, h)

-- a text with its quotes in pairs has pieces; `front` is the part of its first piece that was read so far
has_pieces_from : (front bytes : List ℕ) → HasCommasInQuotes front → quotes (front ++ bytes) % 2 ≡ 0 → HasPieces (front ++ bytes)
has_pieces_from front [] keeps even = subst HasPieces (sym (append-nil front)) (one_piece front (record { keeps = keeps; even = ap (λ xs. quotes xs % 2) (sym (append-nil front)) ∙ even }))
has_pieces_from front (b ∷ bs) keeps even =
    let step : (b ≡ 44 → quotes front % 2 ≡ 1) → HasPieces (front ++ b ∷ bs) = λ comma.
    subst HasPieces (append_assoc front (b ∷ []) bs)
    (has_pieces_from (front ++ b ∷ []) bs (HasCommasInQuotes-push front b keeps comma) (ap (λ xs. quotes xs % 2) (append_assoc front (b ∷ []) bs) ∙ even)) in
    elim (cases_eq b 44) [
      | inr other ↦ step (λ h. absurd (other h))
      | inl comma ↦ elim (cases_eq (quotes front % 2) 0) [
        | inr inside ↦ step (λ _. not_even_is_odd (quotes front) inside)
        | inl outside ↦
            let after : quotes (front ++ 44 ∷ bs) % 2 ≡ 0 = ap (λ x. quotes (front ++ x ∷ bs) % 2) (sym comma) ∙ even in
            subst (λ x. HasPieces (front ++ x ∷ bs)) (sym comma)
            (more_pieces front bs (record { keeps = keeps; even = outside }) (has_pieces_from [] bs HasCommasInQuotes-nil (even_behind front bs outside after)))
      ]
    ]

-- a text with its quotes in pairs has pieces
pub has_pieces : (text : List ℕ) → quotes text % 2 ≡ 0 → HasPieces text
has_pieces text even = has_pieces_from [] text HasCommasInQuotes-nil even

-- the text is the items so far, each padded and with a comma after it, and the rest
pub record SplitSoFar (text : List ℕ) (items : List (List ℕ)) (rest : List ℕ) : Type 0 where
  pub pieces : List (List ℕ)
  pub text_is : text ≡ each_with_comma pieces rest
  pub are : ArePieces pieces items
  pub even : quotes rest % 2 ≡ 0

-- if a text is split so far into items and a rest, and one more piece is cut off that rest, and trimmed to `item`, the text is
-- split so far into the items and then `item`, and what follows the piece's comma, `next`
pub split_more : (text rest piece next item : List ℕ) (items : List (List ℕ)) → SplitSoFar text items rest → CutsPiece rest piece (Some next)
    → IsTrimmed piece item → SplitSoFar text (items ++ item ∷ []) next
split_more text rest piece next item items s cut t = record {
  pieces = s.pieces ++ piece ∷ [];
  text_is = s.text_is ∙ ap (each_with_comma s.pieces) cut.0 ∙ sym (each_with_comma-push s.pieces piece next);
  are = ArePieces-append s.pieces items (piece ∷ []) (item ∷ []) s.are (t.padded, trimmed_is_param piece item t (record { keeps = cut.1; even = cut.2 }), tt);
  even = even_behind piece next cut.2 (ap (λ xs. quotes xs % 2) (sym cut.0) ∙ s.even);
}

-- joined items, of which there are some, are a list of parameters
params_from : (bytes : List ℕ) (items : List (List ℕ)) → 0 < length items → AreJoined bytes items → IsParams bytes items
params_from bytes [] some h = absurd (omega arith)
params_from bytes (i ∷ is) some h = h

-- if a text that isn't spaces alone is split so far into items and a rest, the rest is all of the last piece, and that piece
-- is trimmed to `item`, the text's list of parameters is the items and then `item`
pub split_last : (text rest piece item : List ℕ) (items : List (List ℕ)) → SplitSoFar text items rest → CutsPiece rest piece None
    → IsTrimmed piece item
    → (AreSpaces text → ⊥) → IsParams text (items ++ item ∷ [])
split_last text rest piece item items s cut t some =
    let even : quotes piece % 2 ≡ 0 = ap (λ xs. quotes xs % 2) (sym cut.0) ∙ s.even in
    params_from text (items ++ item ∷ []) (omega (arith, length-append items (item ∷ []))) (record {
      pieces = s.pieces ++ piece ∷ [];
      bytes_are = s.text_is ∙ ap (each_with_comma s.pieces) (cut.0 ∙ sym (append-nil piece)) ∙ sym (joined-append s.pieces piece []);
      pieces_are = ArePieces-append s.pieces items (piece ∷ []) (item ∷ []) s.are (t.padded, trimmed_is_param piece item t (record { keeps = cut.1; even = even }), tt);
      some = some;
    })

-- if a text that isn't spaces alone is split so far into items and a rest, the text is a list of more items than these
pub split_longer : (text rest : List ℕ) (items : List (List ℕ)) → SplitSoFar text items rest → (AreSpaces text → ⊥)
    → (all : List (List ℕ)) × IsParams text all × (length items < length all)
split_longer text rest items s some =
    let r = has_pieces rest s.even in
    let longer : length items < length (items ++ r.item ∷ r.items) = omega (arith, length-append items (r.item ∷ r.items)) in (
      items ++ r.item ∷ r.items,
      params_from text (items ++ r.item ∷ r.items) (omega arith) (record {
        pieces = s.pieces ++ r.first ∷ r.others;
        bytes_are = s.text_is ∙ ap (each_with_comma s.pieces) r.text_is ∙ sym (joined-append s.pieces r.first r.others);
        pieces_are = ArePieces-append s.pieces items (r.first ∷ r.others) (r.item ∷ r.items) s.are r.are;
        some = some;
      }),
      longer,
    )

-- texts of parameters are pieces without spaces
plain_pieces : (ts : List (List ℕ)) → AllByRecursion IsParam ts → ArePieces ts ts
plain_pieces [] h = tt
plain_pieces (t ∷ ts) h = (record { before = 0; behind = 0; piece_is = sym (append-nil t) }, h.0, plain_pieces ts h.1)

-- a text that begins with a parameter of at least one byte isn't spaces alone
param_first_not_spaces : (t rest : List ℕ) → IsParam t → 0 < length t → AreSpaces (t ++ rest) → ⊥
param_first_not_spaces [] rest h some s = omega arith
param_first_not_spaces (b ∷ bs) rest h some s =
    front_not_spaces (b ∷ (bs ++ rest)) (b ∷ (bs ++ rest))
    (record { count = 0; text_is = refl; first = λ others e. h.first bs (let head : b ≡ 32 = cc in ap (λ x. x ∷ bs) head) }) (omega arith) s

-- texts that are parameters, each of at least one byte, joined by commas, are a list of just these parameters
pub joined_params : (ts : List (List ℕ)) → AllByRecursion IsParam ts → AllByRecursion (λ t. 0 < length t) ts → IsParams (joined ts) ts
joined_params [] h some = (0, refl)
joined_params (t ∷ ts) h some = record { pieces = t ∷ ts; bytes_are = refl; pieces_are = plain_pieces (t ∷ ts) h; some = param_first_not_spaces t _ h.0 some.0 }
