-- The bytes of a line, and its CR LF, in pieces.
use Rattle.gc_world.proofs.Common.{◌≡◌, ℕ, ◌+◌, ◌-◌, ◌<◌, ◌≤◌, cond, not, List, [], ◌∷◌, ◌++◌, length, take, drop, Some, None, refl, sym, ap, ◌∙◌, subst, arith, length-append, append_assoc, take-add, ltb, ◌≢◌, AllByRecursion, position, prefix_len, le-ltb, lt-ltb, ne_eqb, take_at, take-append-le, drop-append-le, take-append-drop, All-take, All-drop, recursion_from_All, All-from_recursion, ArrayVec, lent_seen, IsLentLine, Kept, StandsFor, is_line_feed, frame_of, HasNoLineFeed, IsPlainByte, IsPlain, with_end, KeepsPiece, EndsFrame, StandsForPart}
use Rattle.gc_lines.specs.declared.frame.Frame.{Frame}
use Rattle.gc_lines.specs.declared.frame.Frame.TheVariants.{Line}
use Rattle.gc_lines.specs.declared.frame.Lent.{Lent}
use Rattle.gc_lines.proofs.Plain.{frame_is_line}
use Rattle.gc_lines.specs.declared.frame.Lent.TheVariants as lent

-- Plain bytes have no line feed.

-- where bytes are plain, `prefix_len` of those that are no line feed is the length of all
plain_prefix : (bs : List ℕ) → AllByRecursion IsPlainByte bs → prefix_len (λ b. not (is_line_feed b)) bs ≡ length bs
plain_prefix [] h = refl
plain_prefix (b ∷ bs) h =
    ap (λ v. cond (Rattle.std.specs.Prelude.not v) (1 + prefix_len (λ c. not (is_line_feed c)) bs) 0) (ne_eqb b 10 h.0.0)
    ∙ ap (λ n. 1 + n) (plain_prefix bs h.1) ∙ omega arith

-- plain bytes have no line feed
pub no_feed : (bs : List ℕ) → IsPlain bs → position is_line_feed bs ≡ None
no_feed bs h =
    ap (λ n. cond (ltb n (length bs)) (Some n) None) (plain_prefix bs (recursion_from_All IsPlainByte bs h))
    ∙ ap (λ v. cond v (Some (length bs)) None) (le-ltb (length bs) (length bs) (omega arith))

-- Pieces of a list.

-- where g is at most m, the first g elements, and after them those from place g on but before place m, are the first m
pub take_pieces : {A : Type 0} (g m : ℕ) (xs : List A) → g ≤ m → take g xs ++ take (m - g) (drop g xs) ≡ take m xs
take_pieces g m xs le = let e : g + (m - g) ≡ m = omega (arith, le) in sym (take-add g (m - g) xs) ∙ ap (λ k. take k xs) e

-- a line with its CR LF is two bytes longer
pub end_length : (line : List ℕ) → length (with_end line) ≡ length line + 2
end_length line = length-append line (13 ∷ 10 ∷ [])

-- all but the last byte of a line with its CR LF are the line and the CR
with_return : (line : List ℕ) (m : ℕ) → m ≡ length line + 1 → take m (with_end line) ≡ line ++ 13 ∷ []
with_return line m e =
    ap (take m) (sym (append_assoc line (13 ∷ []) (10 ∷ []))) ∙ take_at (line ++ 13 ∷ []) (10 ∷ []) m (length-append line (13 ∷ []) ∙ sym e)

-- What an assembler stands for, the bytes of a line that it has taken so far, once it was fed a piece of the line: `old` is the
-- assembler before, and `new` after. The call that fed the piece used `used` bytes of it and returned `frame` (`KeepsPiece`).

module _ {used : ℕ} {frame : Frame} (old new : Kept) (line : List ℕ) (plain : IsPlain line) where
  -- where an assembler stood (`old`) for the first g bytes of the line, and was fed those from there to place m, within the line,
  -- it then stands (`new`) for the first m bytes
  pub fed_within : (g m : ℕ) → g ≤ m → m ≤ length line → KeepsPiece old new (take (m - g) (drop g line)) used frame → StandsForPart old g line → StandsForPart new m line
  fed_within g m le within next stands =
      let fed = (next (no_feed (take (m - g) (drop g line)) (All-take IsPlainByte (m - g) (drop g line) (All-drop IsPlainByte g line plain)))).2 (take g line)
      (subst (StandsFor old) (take-append-le g line (13 ∷ 10 ∷ []) (omega (arith, le, within))) stands) in
      subst (StandsFor new) (take_pieces g m line le ∙ sym (take-append-le m line (13 ∷ 10 ∷ []) within)) fed

  -- where an assembler stood (`old`) for the first g bytes of the line, and was fed its other bytes, without CR LF, it then
  -- stands (`new`) for the line
  pub fed_line : (g : ℕ) → g ≤ length line → KeepsPiece old new (take (length line - g) (drop g line)) used frame → StandsForPart old g line → StandsFor new line
  fed_line g le next stands = subst (StandsFor new) (take_at line (13 ∷ 10 ∷ []) (length line) refl) (fed_within g (length line) le (omega arith) next stands)

-- where an assembler stood (`old`) for a line, and was fed a CR, it then stands (`new`) for the line and the CR
pub fed_return : {used : ℕ} {frame : Frame} (old new : Kept) (line : List ℕ) (m : ℕ) → m ≡ length line + 1
    → KeepsPiece old new (13 ∷ []) used frame → StandsFor old line
    → StandsForPart new m line
fed_return old new line m e next stands = subst (StandsFor new) (sym (with_return line m e)) ((next refl).2 line stands)

-- plain bytes and a CR have no line feed
no_feed_before : (bs : List ℕ) → AllByRecursion IsPlainByte bs → HasNoLineFeed (bs ++ 13 ∷ [])
no_feed_before [] h = ((λ e. absurd (omega arith)), tt)
no_feed_before (b ∷ bs) h = (h.0.0, no_feed_before bs h.1)

-- where bytes have no line feed, and one is after them, `prefix_len` of those that are no line feed is the number of all
prefix_of_all : (bs : List ℕ) → HasNoLineFeed bs → prefix_len (λ b. not (is_line_feed b)) (bs ++ 10 ∷ []) ≡ length bs
prefix_of_all [] h = refl
prefix_of_all (b ∷ bs) h =
    ap (λ v. cond (Rattle.std.specs.Prelude.not v) (1 + prefix_len (λ c. not (is_line_feed c)) (bs ++ 10 ∷ [])) 0) (ne_eqb b 10 h.0)
    ∙ ap (λ n. 1 + n) (prefix_of_all bs h.1) ∙ omega arith

-- the first line feed after bytes that have none is the one after them
feed_behind : (bs : List ℕ) → HasNoLineFeed bs → position is_line_feed (bs ++ 10 ∷ []) ≡ Some (length bs)
feed_behind bs h =
    ap (λ n. cond (ltb n (length (bs ++ 10 ∷ []))) (Some n) None) (prefix_of_all bs h)
    ∙ ap (λ v. cond v (Some (length bs)) None) (lt-ltb (length bs) (length (bs ++ 10 ∷ [])) (omega (arith, length-append bs (10 ∷ []))))

-- where an assembler stood (`old`) for the first g bytes of a line with its CR LF, and was fed the others (`piece`), these end a
-- frame, which is the line, and the assembler is then (`new`) at the start of a line
pub fed_rest : {used : ℕ} {frame : Frame} (old new : Kept) (line : List ℕ) (g : ℕ) (piece : List ℕ) → IsPlain line → length line ≤ 512 → g < length line + 2
    → piece ≡ drop g (with_end line) → EndsFrame old new piece used frame → StandsForPart old g line
    → (frame ≡ Line (record { items = line })) × StandsFor new []
fed_rest old new line g piece plain fits some piece_is ends stands =
    let body = line ++ 13 ∷ [] in
    let left = drop g body in
    let none : HasNoLineFeed left =
    let each = All-from_recursion (λ b. b ≢ 10) body (no_feed_before line (recursion_from_All IsPlainByte line plain)) in
    recursion_from_All (λ b. b ≢ 10) left (All-drop (λ b. b ≢ 10) g body each) in
    let within : g ≤ length body = omega (arith, some, length-append line (13 ∷ [])) in
    let whole : with_end line ≡ body ++ 10 ∷ [] = sym (append_assoc line (13 ∷ []) (10 ∷ [])) in
    let left_is : piece ≡ left ++ 10 ∷ [] = piece_is ∙ ap (drop g) whole ∙ drop-append-le g body (10 ∷ []) within in
    let at = ends (length left) (ap (position is_line_feed) left_is ∙ feed_behind left none) in
    let gone : take g (with_end line) ≡ take g body = ap (take g) whole ∙ take-append-le g body (10 ∷ []) within in
    let fed : take (length left) piece ≡ left = ap (take (length left)) left_is ∙ take_at left (10 ∷ []) (length left) refl in
    let bytes : take g (with_end line) ++ take (length left) piece ≡ body =
    ap (λ bs. bs ++ take (length left) piece) gone ∙ ap (λ bs. take g body ++ bs) fed ∙ take-append-drop g body in
    (at.1 (take g (with_end line)) stands ∙ ap frame_of bytes ∙ sym (frame_is_line line fits), at.2)

-- two frames that are equal lines have equal bytes
line_items : (xs ys : List ℕ) → ◌≡◌ {A = Frame} (Line (record { items = xs })) (Line (record { items = ys })) → xs ≡ ys
line_items xs ys e = let same : ◌≡◌ {A = ArrayVec ℕ} (record { items = xs }) (record { items = ys }) = cc in ap (λ (v : ArrayVec ℕ). v.items) same

-- where a lent frame is the line l, and `IsLentLine` says that it is a line of these bytes, these are the bytes of l
pub lent_line_items : (f : Lent) (l : _) (items : List ℕ) → f ≡ lent.Line l → IsLentLine f items → l.now ≡ items
lent_line_items f l items is seen = let e : Line (record { items = l.now }) ≡ Line (record { items = items }) = ap lent_seen (sym is) ∙ seen in line_items l.now items e

-- a lent frame of which `IsLentLine` holds is `Line` and nothing else
pub no_other_lent : (f : Lent) (items : List ℕ) → IsLentLine f items → ((l : _) → f ≡ lent.Line l → ⊥) → ⊥
no_other_lent (lent.Line l) items seen not = not l refl
no_other_lent lent.Cleared items seen not = cc
no_other_lent lent.Overlong items seen not = cc
no_other_lent lent.More items seen not = cc
