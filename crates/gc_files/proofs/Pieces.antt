-- Bytes as lines: how many there are, and which of them are those of a front. Bytes are whole if they end in a line feed or are
-- none.
use Rattle.gc_files.proofs.Common.{◌≡◌, inl, inr, ℕ, ◌+◌, ◌-◌, ◌≤◌, ◌==◌, true, false, List, [], ◌∷◌, ◌++◌, length, take, drop, refl, sym, ◌∙◌, ap, subst, arith, append_assoc, length-append, if◌then◌else◌, onto_first, take-append-add, cases_Bool, eqb-true, take_at, take-append-drop, feeds, has_feed, whole, row_line, IsFront, row_lines, AreRows}
use Rattle.gc_files.proofs.Whole.{whole_line, whole_more, whole_none}

-- the lines of bytes, without their line feeds; after the last line feed there is one more, if anything is left. (`onto_first`
-- puts a byte before the bytes of the first line.)
abbrev pub all_pieces : List ℕ → List (List ℕ)
all_pieces [] = []
all_pieces (b ∷ bs) = if b == 10 then [] ∷ all_pieces bs else onto_first b (all_pieces bs)

-- rows (lines without a line feed) stay rows with a byte put before the first one, if that byte is no line feed
onto_rows : (b : ℕ) (rows : List (List ℕ)) → (b == 10) ≡ false → AreRows rows → AreRows (onto_first b rows)
onto_rows b [] isnt are = (rw (isnt) refl, tt)
onto_rows b (row ∷ rows) isnt are = (rw (isnt) are.0, are.1)

-- no piece of bytes has a line feed
pub pieces_rows : (xs : List ℕ) → AreRows (all_pieces xs)
pieces_rows [] = tt
pieces_rows (b ∷ bs) = elim (cases_Bool (b == 10)) [
  | inl is ↦ rw (is) (refl, pieces_rows bs)
  | inr isnt ↦ rw (isnt) (onto_rows b (all_pieces bs) isnt (pieces_rows bs))
]

-- a text with a byte isn't empty
cons_not_nil : (b : ℕ) (bs : List ℕ) → b ∷ bs ≡ [] → ⊥
cons_not_nil b bs e = cc

-- bytes that end in a line feed have one, and what comes after their first byte ends in one, too, or is empty
pub tail_whole : (b : ℕ) (bs : List ℕ) → whole (b ∷ bs) ≡ b ∷ bs → (has_feed (b ∷ bs) ≡ true) × (whole bs ≡ bs)
tail_whole b bs is = elim (cases_Bool (has_feed (b ∷ bs))) [
  | inl some ↦
      let at : whole (b ∷ bs) ≡ b ∷ whole bs = rw (some) refl in
      (some, ap (drop 1) (sym at ∙ is))
  | inr none ↦ absurd (cons_not_nil b bs (sym is ∙ whole_none (b ∷ bs) none))
]

-- where bytes are whole, so is each tail of them
pub whole_rest : (xs ys : List ℕ) → whole (xs ++ ys) ≡ xs ++ ys → whole ys ≡ ys
whole_rest [] ys is = is
whole_rest (b ∷ xs) ys is = whole_rest xs ys (tail_whole b (xs ++ ys) is).1

-- these rows are at least one
record IsOneOrMore (rows : List (List ℕ)) : Type 0 where
  row : List ℕ
  others : List (List ℕ)
  is : rows ≡ row ∷ others

-- lines with a byte put before the first one are at least one
onto_some : (b : ℕ) (rows : List (List ℕ)) → IsOneOrMore (onto_first b rows)
onto_some b [] = record { row = b ∷ []; others = []; is = refl }
onto_some b (row ∷ rows) = record { row = b ∷ row; others = rows; is = refl }

-- bytes with a line feed have a first piece
some_piece : (bs : List ℕ) → has_feed bs ≡ true → IsOneOrMore (all_pieces bs)
some_piece [] some = let wrong : false ≡ true = some in cc
some_piece (b ∷ bs) some = elim (cases_Bool (b == 10)) [
  | inl is ↦ rw (is) (record { row = []; others = all_pieces bs; is = refl })
  | inr isnt ↦ rw (isnt) (onto_some b (all_pieces bs))
]

-- where bytes have a line feed, and the first byte isn't one, there is one among the bytes after it
pub feed_behind_first : (b : ℕ) (bs : List ℕ) → (b == 10) ≡ false → has_feed (b ∷ bs) ≡ true → has_feed bs ≡ true
feed_behind_first b bs isnt some = subst (λ t. (if t then true else has_feed bs) ≡ true) isnt some

-- if there is a line, the bytes of the lines with a byte put before the first one are that byte and the bytes of the lines
onto_lines : (b : ℕ) (rows : List (List ℕ)) → IsOneOrMore rows → row_lines (onto_first b rows) ≡ b ∷ row_lines rows
onto_lines b [] some = let wrong : [] ≡ some.row ∷ some.others = some.is in cc
onto_lines b (row ∷ rows) some = refl

-- if there is a line in `rows`, to put a byte before the first of the lines `rows` and `others` together is to put it before the
-- first of `rows`, and `others` after these
onto_append : (b : ℕ) (rows others : List (List ℕ)) → IsOneOrMore rows → onto_first b (rows ++ others) ≡ onto_first b rows ++ others
onto_append b [] others some = let wrong : [] ≡ some.row ∷ some.others = some.is in cc
onto_append b (row ∷ rows) others some = refl

-- if there is a line, a byte put before the first one makes no further line
onto_length : (b : ℕ) (rows : List (List ℕ)) → IsOneOrMore rows → length (onto_first b rows) ≡ length rows
onto_length b [] some = let wrong : [] ≡ some.row ∷ some.others = some.is in cc
onto_length b (row ∷ rows) some = refl

-- the pieces of whole bytes, each with a line feed after it, are these bytes
pub pieces_whole : (xs : List ℕ) → whole xs ≡ xs → row_lines (all_pieces xs) ≡ xs
pieces_whole [] is = refl
pieces_whole (b ∷ bs) is =
    let t = tail_whole b bs is in
    elim (cases_Bool (b == 10)) [
      | inl ten ↦ rw (ten) (ap (λ (l : List ℕ). 10 ∷ l) (pieces_whole bs t.1) ∙ ap (λ n. n ∷ bs) (sym (eqb-true b 10 ten)))
      | inr isnt ↦ rw (isnt) (onto_lines b (all_pieces bs) (some_piece bs (feed_behind_first b bs isnt t.0)) ∙ ap (λ (l : List ℕ). b ∷ l) (pieces_whole bs t.1))
    ]

-- the pieces of whole bytes `xs` and of `ys` after them are those of `xs` and then those of `ys`
pub pieces_append : (xs ys : List ℕ) → whole xs ≡ xs → all_pieces (xs ++ ys) ≡ all_pieces xs ++ all_pieces ys
pieces_append [] ys is = refl
pieces_append (b ∷ bs) ys is =
    let t = tail_whole b bs is in
    elim (cases_Bool (b == 10)) [
      | inl ten ↦ rw (ten) (ap (λ (l : List (List ℕ)). [] ∷ l) (pieces_append bs ys t.1))
      | inr isnt ↦ rw (isnt) (ap (onto_first b) (pieces_append bs ys t.1) ∙ onto_append b (all_pieces bs) (all_pieces ys) (some_piece bs (feed_behind_first b bs isnt t.0)))
    ]

-- whole bytes have as many pieces as line feeds
pub pieces_count : (xs : List ℕ) → whole xs ≡ xs → length (all_pieces xs) ≡ feeds xs
pieces_count [] is = refl
pieces_count (b ∷ bs) is =
    let t = tail_whole b bs is in
    elim (cases_Bool (b == 10)) [
      | inl ten ↦ rw (ten) (omega (arith, pieces_count bs t.1))
      | inr isnt ↦ rw (isnt) (omega (arith, onto_length b (all_pieces bs) (some_piece bs (feed_behind_first b bs isnt t.0)), pieces_count bs t.1))
    ]

-- the bytes of two lists of lines, one after the other, are those of the first and then those of the second
pub row_lines_append : (xs ys : List (List ℕ)) → row_lines (xs ++ ys) ≡ row_lines xs ++ row_lines ys
row_lines_append [] ys = refl
row_lines_append (row ∷ xs) ys = ap (λ (l : List ℕ). row_line row ++ l) (row_lines_append xs ys) ∙ sym (append_assoc (row_line row) (row_lines xs) (row_lines ys))

-- lines, each with its line feed, end in one, unless there are none
lines_whole : (rows : List (List ℕ)) → whole (row_lines rows) ≡ row_lines rows
lines_whole [] = refl
lines_whole (row ∷ rows) = whole_more (row_line row) (row_lines rows) (whole_line row) ∙ ap (λ (l : List ℕ). row_line row ++ l) (lines_whole rows)

-- `rows`, which are left of the bytes `all`, are `taken` and perhaps more, which is whole, and a front of all
pub record AreLeftOf (taken all rows : List ℕ) : Type 0 where
  pub more : List ℕ
  pub has : rows ≡ taken ++ more
  pub lines : whole more ≡ more
  pub own : IsFront (taken ++ more) all

-- where `taken` and `rest` are whole, and n is at least the count of lines of `taken`, `AreLeftOf` holds of the first n lines of
-- both together
pub rows_left : (taken rest : List ℕ) (n : ℕ) → whole taken ≡ taken → whole rest ≡ rest → feeds taken ≤ n → AreLeftOf taken (taken ++ rest) (row_lines (take n (all_pieces (taken ++ rest))))
rows_left taken rest n taken_whole rest_whole least =
    let m = n - feeds taken in
    let at : n ≡ length (all_pieces taken) + m = omega (arith, least, pieces_count taken taken_whole) in
    let cut : take n (all_pieces (taken ++ rest)) ≡ all_pieces taken ++ take m (all_pieces rest) =
    ap (take n) (pieces_append taken rest taken_whole) ∙ ap (λ k. take k (all_pieces taken ++ all_pieces rest)) at ∙ take-append-add (all_pieces taken) (all_pieces rest) m in
    record {
      more = row_lines (take m (all_pieces rest));
      has = ap row_lines cut ∙ row_lines_append (all_pieces taken) (take m (all_pieces rest)) ∙ ap (λ (l : List ℕ). l ++ row_lines (take m (all_pieces rest))) (pieces_whole taken taken_whole);
      lines = lines_whole (take m (all_pieces rest));
      own = record {
        rest = row_lines (drop m (all_pieces rest));
        split = ap (λ (l : List ℕ). taken ++ l)
            (sym (pieces_whole rest rest_whole) ∙ ap row_lines (sym (take-append-drop m (all_pieces rest))) ∙ row_lines_append (take m (all_pieces rest)) (drop m (all_pieces rest)))
            ∙ sym (append_assoc taken (row_lines (take m (all_pieces rest))) (row_lines (drop m (all_pieces rest))));
      };
    }

-- the whole front `taken` has no more line feeds than all bytes have pieces
pub pieces_fit : (taken rest : List ℕ) → whole taken ≡ taken → feeds taken ≤ length (all_pieces (taken ++ rest))
pieces_fit taken rest is = omega (arith, pieces_count taken is, ap length (pieces_append taken rest is), length-append (all_pieces taken) (all_pieces rest))

-- the first pieces, as many as the whole front `taken` has line feeds, are that front
pub pieces_front : (taken rest : List ℕ) → whole taken ≡ taken → row_lines (take (feeds taken) (all_pieces (taken ++ rest))) ≡ taken
pieces_front taken rest is =
    ap row_lines (ap (take (feeds taken)) (pieces_append taken rest is) ∙ take_at (all_pieces taken) (all_pieces rest) (feeds taken) (pieces_count taken is)) ∙ pieces_whole taken is
