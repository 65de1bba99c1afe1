-- The lines of a text, one after another. A text is cut into pieces at each LF; `before` is the beginning of the first piece. A
-- line is a piece without the CR at its end, if it has one. `ReadsSoFar` says how far the reading of a text has come. A line that is
-- empty or begins with `#` is skipped; any other has to have the form of an item. LF is byte 10, and CR byte 13.
use Rattle.gc_texts.proofs.Common.{◌≡◌, ◌≢◌, ◌<◌, ◌≤◌, ◌+◌, ℕ, List, [], ◌∷◌, ◌++◌, length, map, Option, Some, None, true, false, cond, arith, ap, subst, sym, ◌∙◌, ◌==◌, append_assoc, append-nil, cond_both, length-map, filter-append, Lacks, ItemForm, CutsLine, text_pieces, without_cr, text_lines, is_skipped, is_kept, AreLinesOf, HasKeptLine, FirstFaulty, ReachesASoundLine}
use Rattle.std.proofs.Common.{length-append, ne_eqb}
use Rattle.std.specs.Prelude.{filter, not}

-- the lines of what is left of a text; none where nothing is (`None`). What is left after a last LF is the empty text, one empty
-- line
abbrev pub lines_left : Option (List ℕ) → List (List ℕ)
lines_left None = []
lines_left (Some text) = text_lines text

-- how much is left of a text, as a number that falls with each line: its bytes and one more, or 0 where nothing is left (`None`)
abbrev pub much_left : Option (List ℕ) → ℕ
much_left None = 0
much_left (Some text) = length text + 1

-- a byte that isn't LF is added to the first piece
first_piece_grows : (before bs : List ℕ) (b : ℕ) → b ≢ 10 → text_pieces before (b ∷ bs) ≡ text_pieces (before ++ b ∷ []) bs
first_piece_grows before bs b other = ap (λ t. cond t (before ∷ text_pieces [] bs) (text_pieces (before ++ b ∷ []) bs)) (ne_eqb b 10 other)

-- where `bs` has no LF, there is one piece: `before`, and `bs` after it
one_piece-lacking : (before bs : List ℕ) → Lacks 10 bs → text_pieces before bs ≡ (before ++ bs) ∷ []
one_piece-lacking before [] lacks = ap (λ x. x ∷ []) (sym (append-nil before))
one_piece-lacking before (b ∷ bs) lacks =
    first_piece_grows before bs b lacks.0 ∙ one_piece-lacking (before ++ b ∷ []) bs lacks.1 ∙ ap (λ x. x ∷ []) (append_assoc before (b ∷ []) bs)

-- where `front` has no LF, the pieces of `front`, an LF and `rest`, with `before` as the beginning of the first, are `before` and
-- `front` as one, and then those of `rest`
pieces-cut : (before front rest : List ℕ) → Lacks 10 front → text_pieces before (front ++ 10 ∷ rest) ≡ (before ++ front) ∷ text_pieces [] rest
pieces-cut before [] rest lacks = ap (λ x. x ∷ text_pieces [] rest) (sym (append-nil before))
pieces-cut before (b ∷ front) rest lacks =
    first_piece_grows before (front ++ 10 ∷ rest) b lacks.0 ∙ pieces-cut (before ++ b ∷ []) front rest lacks.1 ∙ ap (λ x. x ∷ text_pieces [] rest) (append_assoc before (b ∷ []) front)

-- there is at most one piece more than `bs` has bytes, whatever the first piece begins with (`before`)
pieces-few : (before bs : List ℕ) → length (text_pieces before bs) ≤ length bs + 1
pieces-few before [] = omega arith
pieces-few before (b ∷ bs) =
    let anew = pieces-few [] bs in
    let on = pieces-few (before ++ b ∷ []) bs in
    cond_both (b == 10) (before ∷ text_pieces [] bs) (text_pieces (before ++ b ∷ []) bs) (λ ps. length ps ≤ length (b ∷ bs) + 1) (λ _. omega (arith, anew)) (λ _. omega (arith, on))

-- where a text's first line is cut off, its lines are this line, and then those of `rest`
pub lines-cut : (text line : List ℕ) (rest : Option (List ℕ)) → CutsLine text line rest → text_lines text ≡ line ∷ lines_left rest
lines-cut text line None c = ap (map without_cr) (ap (text_pieces []) c.cut.0 ∙ one_piece-lacking [] c.piece c.cut.1) ∙ ap (λ l. l ∷ []) (sym c.line_is)
lines-cut text line (Some rest) c =
    ap (map without_cr) (ap (text_pieces []) c.cut.0 ∙ pieces-cut [] c.piece rest c.cut.1) ∙ ap (λ l. l ∷ text_lines rest) (sym c.line_is)

-- where a text's first line is cut off, what is left is less than the text, as `much_left` counts
pub left_falls : (text line : List ℕ) (rest : Option (List ℕ)) → CutsLine text line rest → much_left rest < much_left (Some text)
left_falls text line None c = omega arith
left_falls text line (Some rest) c =
    let all : length text ≡ length c.piece + length (10 ∷ rest) = ap length c.cut.0 ∙ length-append c.piece (10 ∷ rest) in
    omega (arith, all)

-- where the lines `xs` have the forms of the items `es`, and the lines `ys` those of the items `fs`, `xs` followed by `ys` have
-- the forms of `es` followed by `fs`
pub AreLinesOf-append : {Item : Type 0} (form : ItemForm Item) (xs ys : List (List ℕ)) (es fs : List Item)
    → AreLinesOf form xs es → AreLinesOf form ys fs → AreLinesOf form (xs ++ ys) (es ++ fs)
AreLinesOf-append form [] ys [] fs h k = k
AreLinesOf-append form [] ys (e ∷ es) fs h k = absurd h
AreLinesOf-append form (x ∷ xs) ys [] fs h k = absurd h
AreLinesOf-append form (x ∷ xs) ys (e ∷ es) fs h k = (h.0, AreLinesOf-append form xs ys es fs h.1 k)

-- how far the reading of a text has come: `number` of its lines were read, and gave these items, and the others are `later`
pub record HasRead {Item : Type 0} (form : ItemForm Item) (text : List ℕ) (later : List (List ℕ)) (number : ℕ) (items : List Item) : Type 0 where
  pub read : List (List ℕ)
  pub lines_are : text_lines text ≡ read ++ later
  pub count : number ≡ length read
  pub items_are : AreLinesOf form (filter is_kept read) items

-- how far the reading of a text has come, of which `left` is unread: `number` lines were read, and gave these items
abbrev pub ReadsSoFar : {Item : Type 0} → ItemForm Item → (text : List ℕ) → (left : Option (List ℕ)) → (number : ℕ) → List Item → Type 0
ReadsSoFar form text left number items = HasRead form text (lines_left left) number items

-- of a text of at most 65,536 bytes at most 65,537 lines are read, so that a u32 counts them
pub reads_few : {Item : Type 0} (form : ItemForm Item) (text : List ℕ) (left : Option (List ℕ)) (number : ℕ) (items : List Item)
    → length text ≤ 65536 → ReadsSoFar form text left number items → number ≤ 65537
reads_few form text left number items within r =
    let all : length (text_lines text) ≡ length r.read + length (lines_left left) = ap length r.lines_are ∙ length-append r.read (lines_left left) in
    let pieces : length (text_lines text) ≡ length (text_pieces [] text) = length-map (text_pieces [] text) without_cr in
    omega (arith, all, pieces, pieces-few [] text, within, r.count)

-- these are the items of one line: none where it is skipped, else the one whose form it has
abbrev pub LineItems : {Item : Type 0} → ItemForm Item → List ℕ → List Item → Type 0
LineItems form line items = AreLinesOf form (filter is_kept (line ∷ [])) items

-- a line that is skipped has no item
skipped_line : {Item : Type 0} (form : ItemForm Item) (line : List ℕ) → is_skipped line ≡ true → LineItems form line []
skipped_line form line skipped = subst (λ ls. AreLinesOf form ls []) (sym (ap (λ t. cond (not t) (line ∷ []) []) skipped)) tt

-- a line that isn't skipped and has the form of an item gives that item
kept_line : {Item : Type 0} (form : ItemForm Item) (line : List ℕ) (item : Item)
    → is_skipped line ≡ false → form line item → LineItems form line (item ∷ [])
kept_line form line item kept is = subst (λ ls. AreLinesOf form ls (item ∷ [])) (sym (ap (λ t. cond (not t) (line ∷ []) []) kept)) (is, tt)

-- if `line` is cut off what is unread, the lines that aren't read yet are that line, and then those of the rest
pub next_line_is_unread : {Item : Type 0} (form : ItemForm Item) (text : List ℕ) (left : Option (List ℕ)) (now line : List ℕ) (rest : Option (List ℕ))
    (number : ℕ) (items : List Item) → ReadsSoFar form text left number items → left ≡ Some now → CutsLine now line rest
    → HasRead form text (line ∷ lines_left rest) number items
next_line_is_unread form text left now line rest number items r some cut =
    subst (λ ls. HasRead form text ls number items) (ap lines_left some ∙ lines-cut now line rest cut) r

-- what becomes of the next line of a text that is being read
module _
    {Item : Type 0} (form : ItemForm Item) (text line : List ℕ) (rest : Option (List ℕ)) (number : ℕ) (items : List Item)
    (at : HasRead form text (line ∷ lines_left rest) number items) where
  -- if the line gives the items `more` (`LineItems`), one line more is read, and these items with it
  reads_on : (more : List Item) → LineItems form line more → ReadsSoFar form text rest (number + 1) (items ++ more)
  reads_on more of_line = record {
    read = at.read ++ line ∷ [];
    lines_are = at.lines_are ∙ sym (append_assoc at.read (line ∷ []) (lines_left rest));
    count = omega (arith, at.count, length-append at.read (line ∷ []));
    items_are = subst (λ ls. AreLinesOf form ls (items ++ more)) (sym (filter-append is_kept at.read (line ∷ [])))
        (AreLinesOf-append form (filter is_kept at.read) (filter is_kept (line ∷ [])) items more at.items_are of_line);
  }

  -- if the line is skipped, it is read, and gives no item
  pub line_skips : is_skipped line ≡ true → ReadsSoFar form text rest (number + 1) items
  line_skips is = subst (λ es. ReadsSoFar form text rest (number + 1) es) (append-nil items) (reads_on [] (skipped_line form line is))

  -- if the line isn't skipped and has the form of an item, it is read, and gives that item
  pub line_reads : (item : Item) (new : List Item) → is_skipped line ≡ false → form line item → new ≡ items ++ item ∷ []
      → ReadsSoFar form text rest (number + 1) new
  line_reads item new isnt is grown = subst (λ es. ReadsSoFar form text rest (number + 1) es) (sym grown) (reads_on (item ∷ []) (kept_line form line item isnt is))

  -- if the line isn't skipped, the text has it after the lines that were read (`HasKeptLine`)
  pub is_here : is_skipped line ≡ false → HasKeptLine text at.read line
  is_here isnt = record { rest = lines_left rest; lines_are = at.lines_are; kept = ap not isnt }

  -- if the line isn't skipped and has the form of no item, it is the first faulty one
  pub line_fails : is_skipped line ≡ false → ((e : Item) → form line e → ⊥) → FirstFaulty form text (number + 1)
  line_fails isnt none =
      record {
        front = at.read;
        line = line;
        here = is_here isnt;
        place = ap (λ n. n + 1) at.count;
        no_item = none;
        items = items;
        before = at.items_are;
      }

  -- if the line isn't skipped and has the form of an item, the text has such a line with no faulty line before it
  -- (`ReachesASoundLine`): this is needed where memory is refused for the item
  pub line_wants : (item : Item) → is_skipped line ≡ false → form line item → ReachesASoundLine form text
  line_wants item isnt is =
      record {
        front = at.read;
        line = line;
        here = is_here isnt;
        item = item;
        is_item = is;
        items = items;
        before = at.items_are;
      }
