-- The items of a reply's values are those of the grammar: a text that is parameters joined by commas, with any spaces round
-- each, has these parameters as its items.
use Rattle.gc_rows.proofs.Common.{◌≡◌, ◌<◌, ◌≤◌, ◌+◌, ◌%◌, ◌==◌, ◌⊎◌, inl, inr, ℕ, zero, suc, List, [], ◌∷◌, ◌++◌, length, get_or, take, map, replicate, Bool, true, false, cond, Some, None, refl, sym, ap, ◌∙◌, subst, arith, append_assoc, append-nil, not, ◌&&◌, AllByRecursion, onto_first, ne_eqb, eqb-true, eq-eqb, cond_both, lt-ltb, le-ltb, false≢true, false_from_ne_true, quotes, quoted_after, AreSpaces, HasCommasInQuotes, IsParam, IsPadded, ArePieces, joined, IsParams, total_length, without_front_spaces, put_before, without_end_spaces, ValueFault, OpenQuote, TooMany, total_length_next, total_length_front, IsOfBytes, trimmed, comma_pieces, is_blank, items_of, items_if, split_items, ItemsAreTheGrammars}
use Rattle.gc_values.proofs.ParamLists.{pieces_of, params_even}
use Rattle.gc_values.proofs.Quotes.{IsPiece, quotes-append, quotes-cons}
use Rattle.gc_values.proofs.Trimming.{param_is_trimmed, trimmed_from_both_ends}

-- Spaces at the ends.

-- a parameter with any spaces round it is trimmed to that parameter
item_trimmed : (piece item : List ℕ) → IsPadded piece item → IsParam item → trimmed piece ≡ item
item_trimmed piece item padded param = sym (trimmed_from_both_ends piece item (param_is_trimmed piece item padded param))

-- pieces that are parameters with any spaces round each are trimmed to these parameters
items_trimmed : (ps is : List (List ℕ)) → ArePieces ps is → map trimmed ps ≡ is
items_trimmed [] [] are = refl
items_trimmed [] (i ∷ is) are = absurd are
items_trimmed (p ∷ ps) [] are = absurd are
items_trimmed (p ∷ ps) (i ∷ is) are = ap (λ t. t ∷ map trimmed ps) (item_trimmed p i are.0 are.1) ∙ ap (λ ts. i ∷ ts) (items_trimmed ps is are.2)

-- Spaces alone.

-- a blank text is spaces alone
blank_spaces : (text : List ℕ) → is_blank text ≡ true → AreSpaces text
blank_spaces [] blank = (0, refl)
blank_spaces (b ∷ bs) blank = by_first (b == 32) refl blank (λ all. blank_spaces bs all) where
  -- `blank_spaces` for the text `b ∷ bs`, by whether b is a space (`z`), if it is true of `bs`
  by_first : (z : Bool) → (b == 32) ≡ z → (z && is_blank bs) ≡ true → (is_blank bs ≡ true → AreSpaces bs) → AreSpaces (b ∷ bs)
  by_first true is all others = let rest = others all in (suc rest.0, ap (λ x. x ∷ bs) (eqb-true b 32 is) ∙ ap (λ xs. 32 ∷ xs) rest.1)
  by_first false is all others = absurd (false≢true all)

-- spaces alone are blank
spaces_blank : (n : ℕ) → is_blank (replicate n 32) ≡ true
spaces_blank zero = refl
spaces_blank (suc n) = spaces_blank n

-- a text that isn't spaces alone isn't blank
not_blank : (text : List ℕ) → (AreSpaces text → ⊥) → is_blank text ≡ false
not_blank text some = false_from_ne_true (is_blank text) (λ blank. some (blank_spaces text blank))

-- Commas outside double quotes.

-- no comma of a text is outside double quotes; `quoted` says whether a double quote is open before the text
abbrev HasNoOpenComma : (quoted : Bool) → List ℕ → Type 0
HasNoOpenComma quoted [] = Unit {0}
HasNoOpenComma quoted (b ∷ bs) = (b ≡ 44 → quoted ≡ true) × HasNoOpenComma (quoted_after b quoted) bs

-- whether a double quote is open after a text; `quoted` says whether one is open before it
abbrev is_open_after : (quoted : Bool) → List ℕ → Bool
is_open_after quoted [] = quoted
is_open_after quoted (b ∷ bs) = is_open_after (quoted_after b quoted) bs

-- `odd` says whether a number is odd
abbrev SaysOdd : (odd : Bool) → ℕ → Type 0
SaysOdd true n = n % 2 ≡ 1
SaysOdd false n = n % 2 ≡ 0

-- these pieces, with a text put in front of the first one
abbrev text_onto_first : List ℕ → List (List ℕ) → List (List ℕ)
text_onto_first [] ps = ps
text_onto_first (b ∷ bs) ps = onto_first b (text_onto_first bs ps)

-- a byte that is no comma outside double quotes ends no piece
ends_no_piece : (b : ℕ) (quoted : Bool) → (b ≡ 44 → quoted ≡ true) → ((b == 44) && not quoted) ≡ false
ends_no_piece b quoted keeps = by_test (b == 44) refl where
  -- `ends_no_piece`, by whether the byte is a comma (`z`)
  by_test : (z : Bool) → (b == 44) ≡ z → (z && not quoted) ≡ false
  by_test true comma = ap not (keeps (eqb-true b 44 comma))
  by_test false comma = refl

-- a text `piece` without a comma outside double quotes and `rest` after it are cut as `rest` is, with `piece` in front of the
-- first of its pieces; `quoted` says whether a double quote is open before `piece`
pieces_with_front : (quoted : Bool) (piece rest : List ℕ) → HasNoOpenComma quoted piece
    → comma_pieces quoted (piece ++ rest) ≡ text_onto_first piece (comma_pieces (is_open_after quoted piece) rest)
pieces_with_front quoted [] rest keeps = refl
pieces_with_front quoted (b ∷ bs) rest keeps =
    ap (λ z. cond z ([] ∷ comma_pieces false (bs ++ rest)) (onto_first b (comma_pieces (quoted_after b quoted) (bs ++ rest)))) (ends_no_piece b quoted keeps.0)
    ∙ ap (onto_first b) (pieces_with_front (quoted_after b quoted) bs rest keeps.1)

-- if `quoted` says whether `front` has an odd number of double quotes, `quoted_after b quoted` says so of `front` and then b
odd_more : (quoted : Bool) (front : List ℕ) (b : ℕ) → SaysOdd quoted (quotes front) → SaysOdd (quoted_after b quoted) (quotes (front ++ b ∷ []))
odd_more quoted front b odd = by_test quoted (b == 34) odd (quotes-append front (b ∷ []) ∙ ap (λ n. quotes front + n) (quotes-cons b [])) where
  -- `odd_more`, by whether the byte is a double quote (`z`)
  by_test : (quoted z : Bool) → SaysOdd quoted (quotes front) → quotes (front ++ b ∷ []) ≡ quotes front + (cond z 1 0 + quotes [])
      → SaysOdd (cond z (not quoted) quoted) (quotes (front ++ b ∷ []))
  by_test true true odd more = omega (arith, odd, more)
  by_test true false odd more = omega (arith, odd, more)
  by_test false true odd more = omega (arith, odd, more)
  by_test false false odd more = omega (arith, odd, more)

-- if `quoted` says whether a number is odd, and the number is odd, `quoted` is true
open_if_odd : (quoted : Bool) (n : ℕ) → SaysOdd quoted n → n % 2 ≡ 1 → quoted ≡ true
open_if_odd true n odd one = refl
open_if_odd false n odd one = absurd (omega (arith, odd, one))

-- if each comma of `front` and `piece` together is after an odd number of double quotes, and `quoted` says whether `front` has
-- an odd number of them, no comma of `piece` is outside double quotes
has_no_open_comma : (quoted : Bool) (front piece : List ℕ) → HasCommasInQuotes (front ++ piece) → SaysOdd quoted (quotes front) → HasNoOpenComma quoted piece
has_no_open_comma quoted front [] keeps odd = tt
has_no_open_comma quoted front (b ∷ bs) keeps odd = (
  λ comma. open_if_odd quoted (quotes front) odd (keeps front bs (ap (λ x. front ++ x ∷ bs) comma)),
  has_no_open_comma (quoted_after b quoted) (front ++ b ∷ []) bs (subst HasCommasInQuotes (sym (append_assoc front (b ∷ []) bs)) keeps) (odd_more quoted front b odd),
)

-- if `quoted` says whether `front` has an odd number of double quotes, `is_open_after quoted piece` says so of `front` and then
-- `piece`
odd_behind : (quoted : Bool) (front piece : List ℕ) → SaysOdd quoted (quotes front) → SaysOdd (is_open_after quoted piece) (quotes (front ++ piece))
odd_behind quoted front [] odd = subst (λ t. SaysOdd quoted (quotes t)) (sym (append-nil front)) odd
odd_behind quoted front (b ∷ bs) odd =
    subst (λ t. SaysOdd (is_open_after (quoted_after b quoted) bs) (quotes t)) (append_assoc front (b ∷ []) bs) (odd_behind (quoted_after b quoted) (front ++ b ∷ []) bs (odd_more quoted front b odd))

-- if `quoted` says whether a number is odd, and the number is even, `quoted` is false
closed_if_even : (quoted : Bool) (n : ℕ) → SaysOdd quoted n → n % 2 ≡ 0 → quoted ≡ false
closed_if_even true n odd even = absurd (omega (arith, odd, even))
closed_if_even false n odd even = refl

-- a text put in front of an empty first piece is the first piece then
front_is_first : (piece : List ℕ) (ps : List (List ℕ)) → text_onto_first piece ([] ∷ ps) ≡ piece ∷ ps
front_is_first [] ps = refl
front_is_first (b ∷ bs) ps = ap (onto_first b) (front_is_first bs ps)

-- a piece and a text after it are cut as the text is, with the piece in front of the first of the text's pieces
piece_in_front : (piece rest : List ℕ) → IsPiece piece → comma_pieces false (piece ++ rest) ≡ text_onto_first piece (comma_pieces false rest)
piece_in_front piece rest is =
    pieces_with_front false piece rest (has_no_open_comma false [] piece is.keeps refl)
    ∙ ap (λ quoted. text_onto_first piece (comma_pieces quoted rest)) (closed_if_even (is_open_after false piece) (quotes piece) (odd_behind false [] piece refl) is.even)

-- one piece or more, joined by commas, are cut into these pieces
joined_pieces : (p : List ℕ) (ps : List (List ℕ)) → AllByRecursion IsPiece (p ∷ ps) → comma_pieces false (joined (p ∷ ps)) ≡ p ∷ ps
joined_pieces p [] are = piece_in_front p [] are.0 ∙ front_is_first p []
joined_pieces p (q ∷ qs) are =
    piece_in_front p (44 ∷ joined (q ∷ qs)) are.0 ∙ ap (λ l. text_onto_first p ([] ∷ l)) (joined_pieces q qs are.1) ∙ front_is_first p (q ∷ qs)

-- if `ps` are the parameters `i ∷ is` with any spaces round each, the pieces of `ps` joined by commas are trimmed to these
-- parameters
joined_items : (ps is : List (List ℕ)) (i : List ℕ) → ArePieces ps (i ∷ is) → map trimmed (comma_pieces false (joined ps)) ≡ i ∷ is
joined_items [] is i are = absurd are
joined_items (p ∷ ps) is i are = ap (map trimmed) (joined_pieces p ps (pieces_of (p ∷ ps) (i ∷ is) are)) ∙ items_trimmed (p ∷ ps) (i ∷ is) are

-- the law: the items are those of the grammar
pub items_are_the_grammars : ItemsAreTheGrammars
items_are_the_grammars text [] are = ap items_of are.1 ∙ ap (λ z. cond z [] (map trimmed (comma_pieces false (replicate are.0 32)))) (spaces_blank are.0)
items_are_the_grammars text (item ∷ items) are =
    ap (λ z. cond z [] (map trimmed (comma_pieces false text))) (not_blank text are.some)
    ∙ ap (λ t. map trimmed (comma_pieces false t)) are.bytes_are ∙ joined_items are.pieces items item are.pieces_are

-- Whether a text splits.

-- a text that is at most 16 parameters of the grammar splits into these
pub few_are_split : (text : List ℕ) (items : List (List ℕ)) → IsParams text items → length items ≤ 16 → split_items text ≡ Some items
few_are_split text items are few =
    let same = items_are_the_grammars text items are in
    ap (λ z. items_if z (items_of text)) (eq-eqb (quotes text % 2) 0 (params_even text items are))
    ∙ ap (items_if true) same ∙ ap (λ z. cond (not z) (Some items) None) (le-ltb 16 (length items) few)

-- a text with an odd number of double quotes doesn't split
pub open_is_none : (text : List ℕ) → quotes text % 2 ≡ 1 → split_items text ≡ None
open_is_none text odd =
    ap (λ z. items_if z (items_of text)) (ne_eqb (quotes text % 2) 0 (λ even. omega (arith, odd, even)))

-- a text of more than 16 items doesn't split
pub many_are_none : (text : List ℕ) (items : List (List ℕ)) → IsParams text items → 16 < length items → split_items text ≡ None
many_are_none text items are many =
    let same = items_are_the_grammars text items are in
    ap (λ z. items_if z (items_of text)) (eq-eqb (quotes text % 2) 0 (params_even text items are))
    ∙ ap (items_if true) same ∙ ap (λ z. cond (not z) (Some items) None) (lt-ltb 16 (length items) many)

-- Items of bytes.

-- each of these texts is of bytes
abbrev pub AreTextsOfBytes : List (List ℕ) → Type 0
AreTextsOfBytes texts = AllByRecursion IsOfBytes texts

-- a text of bytes is of bytes without the spaces at its front
without_front_spaces_bytes : (text : List ℕ) → IsOfBytes text → IsOfBytes (without_front_spaces text)
without_front_spaces_bytes [] are = tt
without_front_spaces_bytes (b ∷ bs) are = cond_both (b == 32) (without_front_spaces bs) (b ∷ bs) IsOfBytes (λ _. without_front_spaces_bytes bs are.1) (λ _. are)

-- a byte before a text of bytes makes a text of bytes
put_before_bytes : (b : ℕ) (text : List ℕ) → b < 256 → IsOfBytes text → IsOfBytes (put_before b text)
put_before_bytes b [] is are = cond_both (b == 32) [] (b ∷ []) IsOfBytes (λ _. tt) (λ _. (is, tt))
put_before_bytes b (x ∷ xs) is are = (is, are)

-- a text of bytes is of bytes without the spaces at its end
without_end_spaces_bytes : (text : List ℕ) → IsOfBytes text → IsOfBytes (without_end_spaces text)
without_end_spaces_bytes [] are = tt
without_end_spaces_bytes (b ∷ bs) are = put_before_bytes b (without_end_spaces bs) are.0 (without_end_spaces_bytes bs are.1)

-- texts of bytes stay so with a byte put in front of the first
onto_first_bytes : (b : ℕ) (texts : List (List ℕ)) → b < 256 → AreTextsOfBytes texts → AreTextsOfBytes (onto_first b texts)
onto_first_bytes b [] is are = ((is, tt), tt)
onto_first_bytes b (t ∷ ts) is are = ((is, are.0), are.1)

-- the pieces of a text of bytes are of bytes
pieces_bytes : (quoted : Bool) (text : List ℕ) → IsOfBytes text → AreTextsOfBytes (comma_pieces quoted text)
pieces_bytes quoted [] are = (tt, tt)
pieces_bytes quoted (b ∷ bs) are =
    cond_both ((b == 44) && not quoted) ([] ∷ comma_pieces false bs) (onto_first b (comma_pieces (quoted_after b quoted) bs)) AreTextsOfBytes (λ _. (tt, pieces_bytes false bs are.1))
    (λ _. onto_first_bytes b (comma_pieces (quoted_after b quoted) bs) are.0 (pieces_bytes (quoted_after b quoted) bs are.1))

-- texts of bytes are of bytes without the spaces at their ends
trimmed_bytes : (texts : List (List ℕ)) → AreTextsOfBytes texts → AreTextsOfBytes (map trimmed texts)
trimmed_bytes [] are = tt
trimmed_bytes (t ∷ ts) are = (without_end_spaces_bytes (without_front_spaces t) (without_front_spaces_bytes t are.0), trimmed_bytes ts are.1)

-- the items of a text of bytes are of bytes
pub items_bytes : (text : List ℕ) → IsOfBytes text → AreTextsOfBytes (items_of text)
items_bytes text are = cond_both (is_blank text) [] (map trimmed (comma_pieces false text)) AreTextsOfBytes (λ _. tt) (λ _. trimmed_bytes (comma_pieces false text) (pieces_bytes false text are))

-- Texts one after the other.

-- the first k texts and the next one have together at most the bytes of all
pub first_texts_within : (texts : List (List ℕ)) (k : ℕ) → k < length texts → total_length (take k texts) + length (get_or texts k []) ≤ total_length texts
first_texts_within texts k lt = omega (arith, total_length_next texts k lt, total_length_front texts (suc k))

-- a text doesn't split if it has an odd number of double quotes and e is `OpenQuote`, or if it has more than 16 items and e is
-- `TooMany`
pub refused_is_none : (text : List ℕ) (e : ValueFault) → (e ≡ OpenQuote) ⊎ (e ≡ TooMany) → (e ≡ OpenQuote → quotes text % 2 ≡ 1)
    → (e ≡ TooMany → (items : List (List ℕ)) × IsParams text items × (16 < length items)) → split_items text ≡ None
refused_is_none text e (inl quoted) odd many = open_is_none text (odd quoted)
refused_is_none text e (inr more) odd many = let are = many more in many_are_none text are.0 are.1 are.2
