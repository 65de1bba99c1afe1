-- What a look at a file finds: whether it fits the sign (one begins with the other), and where its last whole row ends. `at`
-- is how many bytes were looked at, and `rest` is the sign after them.
use Rattle.gc_files.proofs.Common.{◌≡◌, inl, inr, ℕ, zero, suc, ◌+◌, ◌-◌, ◌≤◌, ◌<◌, ◌==◌, ◌&&◌, true, false, List, [], ◌∷◌, ◌++◌, length, take, drop, refl, sym, ◌∙◌, ap, subst, arith, append_assoc, length-append, length-drop, slice_index, Option, Some, None, take-add, take-append-add, cases_Bool, eqb-true, eq-eqb, drop_all, take-append-drop, take-append-le, length-take-le, drop-drop, Append, Life, Adds, has_feed, whole, fits, PutsAll, PutsFront}
use borrow.Rule.Slice.PartMut.{put_mid}
use Rattle.memchr.specs.Find.{IsLastByte, is_byte}
use Rattle.gc_files.proofs.Whole.{whole_behind, whole_front, whole_none, feed_front}
use Rattle.gc_files.proofs.Adding.{puts_more}

-- the same bytes before both change nothing in whether one begins with the other
pub fits_behind : (xs sign held : List ℕ) → fits (xs ++ sign) (xs ++ held) ≡ fits sign held
fits_behind [] sign held = refl
fits_behind (x ∷ xs) sign held = ap (λ t. t && fits (xs ++ sign) (xs ++ held)) (eq-eqb x x refl) ∙ fits_behind xs sign held

-- an empty file fits each sign
pub fits_none : (sign : List ℕ) → fits sign [] ≡ true
fits_none [] = refl
fits_none (a ∷ sign) = refl

-- where a file and a sign have the same first k bytes, the file fits the sign exactly if what follows in it fits the rest of the
-- sign
pub fits_from : (k : ℕ) (sign held : List ℕ) → take k sign ≡ take k held → fits sign held ≡ fits (drop k sign) (drop k held)
fits_from k sign held same =
    ap (λ (s : List ℕ). fits s held) (sym (take-append-drop k sign)) ∙ ap (λ (h : List ℕ). fits (take k sign ++ drop k sign) h)
    (sym (take-append-drop k held) ∙ ap (λ (l : List ℕ). l ++ drop k held) (sym same))
    ∙ fits_behind (take k sign) (drop k sign) (drop k held)

-- where a sign and a file both have at least k bytes, and their first k bytes differ, neither begins with the other
pub fits_not : (k : ℕ) (sign held : List ℕ) → k ≤ length sign → k ≤ length held → (take k sign ≡ take k held → ⊥) → fits sign held ≡ false
fits_not zero sign held one two differ = absurd (differ refl)
fits_not (suc k) [] held one two differ = absurd (omega (arith, one))
fits_not (suc k) (a ∷ sign) [] one two differ = absurd (omega (arith, two))
fits_not (suc k) (a ∷ sign) (b ∷ held) one two differ = elim (cases_Bool (a == b)) [
  | inl same ↦ ap (λ t. t && fits sign held) same ∙ fits_not k sign held (omega (arith, one)) (omega (arith, two))
      (λ rest. differ (ap (λ n. n ∷ take k sign) (eqb-true a b same) ∙ ap (λ (l : List ℕ). b ∷ l) rest))
  | inr isnt ↦ ap (λ t. t && fits sign held) isnt
]

-- where the next k bytes of the file are those of the sign, the file fits the sign from there exactly if it does from k bytes
-- later
pub same_piece_fits_on : (at k : ℕ) (sign held rest : List ℕ) → rest ≡ drop at sign → take k rest ≡ take k (drop at held)
    → fits (drop at sign) (drop at held) ≡ fits (drop (at + k) sign) (drop (at + k) held)
same_piece_fits_on at k sign held rest is same =
    fits_from k (drop at sign) (drop at held) (ap (take k) (sym is) ∙ same)
    ∙ ap (λ (s : List ℕ). fits s (drop k (drop at held))) (drop-drop k at sign) ∙ ap (λ (h : List ℕ). fits (drop (at + k) sign) h) (drop-drop k at held)

-- where the file and the sign both have k bytes from place `at` on, and these differ, the file doesn't fit the sign from there on
pub other_piece_fits_not : (at k : ℕ) (sign held rest : List ℕ) → rest ≡ drop at sign → k ≤ length rest → at + k ≤ length held
    → (take k rest ≡ take k (drop at held) → ⊥) → fits (drop at sign) (drop at held) ≡ false
other_piece_fits_not at k sign held rest is one two differ =
    ap (λ (s : List ℕ). fits s (drop at held)) (sym is) ∙ fits_not k rest (drop at held) one (omega (arith, two, length-drop at held)) differ

-- a file of which all bytes were looked at fits the sign from there on
pub all_looked_at_fits : (at : ℕ) (sign held : List ℕ) → length held ≤ at → fits (drop at sign) (drop at held) ≡ true
all_looked_at_fits at sign held past = ap (fits (drop at sign)) (drop_all at held past) ∙ fits_none (drop at sign)

-- the first `done` bytes of a buffer are the file's from place `at` on; once `ys`, whose first n bytes are the next ones of the
-- file, is put in place of the k bytes after these, the first `done + n` bytes of the buffer are the file's
pub read_more : (done n at k : ℕ) (buf ys held : List ℕ) → done ≤ length buf → n ≤ length ys
    → take done buf ≡ take done (drop at held) → take n ys ≡ take n (drop (at + done) held)
    → take (done + n) (put_mid done k buf ys) ≡ take (done + n) (drop at held)
read_more done n at k buf ys held within few first second =
    ap (λ m. take (m + n) (put_mid done k buf ys)) (sym (length-take-le done buf within))
    ∙ take-append-add (take done buf) (ys ++ drop k (drop done buf)) n
    ∙ ap (λ (l : List ℕ). take done buf ++ l) (take-append-le n ys (drop k (drop done buf)) few)
    ∙ ap (λ (l : List ℕ). l ++ take n ys) first
    ∙ ap (λ (l : List ℕ). take done (drop at held) ++ l) (second ∙ ap (take n) (sym (drop-drop done at held)))
    ∙ sym (take-add done n (drop at held))

-- a buffer keeps its length where `ys`, of k bytes, is put in place of all k bytes after the first `done`
pub length-put : (done k : ℕ) (buf ys : List ℕ)
    → done ≤ length buf → k ≡ length buf - done → length ys ≡ k → length (put_mid done k buf ys) ≡ length buf
length-put done k buf ys within is size =
    omega (
      arith,
      within,
      is,
      size,
      length-append (take done buf) (ys ++ drop k (drop done buf)),
      length-append ys (drop k (drop done buf)),
      length-take-le done buf within,
      length-drop k (drop done buf),
      length-drop done buf,
    )

-- bytes of which none is 10 have no line feed
no_feed_found : (xs : List ℕ) → ((j : ℕ) → j < length xs → (slice_index xs j == 10) ≡ true → ⊥) → has_feed xs ≡ false
no_feed_found [] none = refl
no_feed_found (b ∷ xs) none = elim (cases_Bool (b == 10)) [
  | inl is ↦ absurd (none 0 (omega arith) is)
  | inr isnt ↦ rw (isnt) (no_feed_found xs (λ j less. none (suc j) (omega (arith, less))))
]

-- bytes of which one is 10 have a line feed
feed_found : (xs : List ℕ) (k : ℕ) → k < length xs → (slice_index xs k == 10) ≡ true → has_feed xs ≡ true
feed_found [] k less is = absurd (omega (arith, less))
feed_found (b ∷ xs) zero less is = rw (is) refl
feed_found (b ∷ xs) (suc k) less is = elim (cases_Bool (b == 10)) [
  | inl this ↦ rw (this) refl
  | inr isnt ↦ rw (isnt) (feed_found xs k (omega (arith, less)) is)
]

-- where there is a line feed, the first byte is in the whole rows: they have one byte more than those of the bytes after it
whole_first : (b : ℕ) (xs : List ℕ) → has_feed (b ∷ xs) ≡ true → length (whole (b ∷ xs)) ≡ suc (length (whole xs))
whole_first b xs some = rw (some) refl

-- where byte k is the last line feed, the whole rows have k + 1 bytes
last_feed : (xs : List ℕ) (k : ℕ) → k < length xs → (slice_index xs k == 10) ≡ true
    → ((j : ℕ) → k < j → j < length xs → (slice_index xs j == 10) ≡ true → ⊥) → suc k ≡ length (whole xs)
last_feed [] k less is none = absurd (omega (arith, less))
last_feed (b ∷ xs) zero less is none =
    let nothing : whole xs ≡ [] = whole_none xs (no_feed_found xs (λ j below. none (suc j) (omega arith) (omega (arith, below)))) in
    sym (whole_first b xs (feed_found (b ∷ xs) zero less is) ∙ ap (λ (l : List ℕ). suc (length l)) nothing)
last_feed (b ∷ xs) (suc k) less is none =
    let rest = last_feed xs k (omega (arith, less)) is (λ j above below. none (suc j) (omega (arith, above)) (omega (arith, below))) in
    sym (whole_first b xs (feed_found (b ∷ xs) (suc k) less is) ∙ ap suc (sym rest))

-- where the last line feed of a block was found at place `last`, the block's whole rows have `last + 1` bytes
pub whole_to_last_feed : (block : List ℕ) (last : ℕ) → IsLastByte (is_byte 10) block (Some last) → last + 1 ≡ length (whole block)
whole_to_last_feed block last h = omega (arith, last_feed block last h.0.high h.1 (λ j above below. h.0.after j (omega (arith, above)) below))

-- a block in which no line feed was found has no whole row
pub no_row_without_feed : (block : List ℕ) → IsLastByte (is_byte 10) block None → 0 ≡ length (whole block)
no_row_without_feed block h = sym (ap length (whole_none block (no_feed_found block (λ j below. h j (omega arith) below))))

-- the block is the `size` bytes of a file after the first `at`, or those of them that there are
abbrev pub IsBlock : (at size : ℕ) (held block : List ℕ) → Type 0
IsBlock at size held block = block ≡ take size (drop at held)

-- what a file holds from place `at` on is the block there, and what follows the block
block_and_rest : (at size : ℕ) (held block : List ℕ) → IsBlock at size held block → drop at held ≡ block ++ drop (at + size) held
block_and_rest at size held block is =
    sym (take-append-drop size (drop at held)) ∙ ap (λ (l : List ℕ). l ++ drop size (drop at held)) (sym is) ∙ ap (λ (l : List ℕ). block ++ l) (drop-drop size at held)

-- bytes without a whole row have no line feed
no_feed_without_rows : (xs : List ℕ) → length (whole xs) ≡ 0 → has_feed xs ≡ false
no_feed_without_rows xs none = elim (cases_Bool (has_feed xs)) [
  | inl some ↦ absurd (feed_makes_a_row xs some none)
  | inr isnt ↦ isnt
]
  where
    -- bytes with a line feed have a whole row
    feed_makes_a_row : (xs : List ℕ) → has_feed xs ≡ true → length (whole xs) ≡ 0 → ⊥
    feed_makes_a_row [] some none = let wrong : false ≡ true = some in cc
    feed_makes_a_row (b ∷ xs) some none = omega (arith, none, whole_first b xs some)

-- bytes with a whole row have a line feed
feed_with_rows : (xs : List ℕ) → 0 < length (whole xs) → has_feed xs ≡ true
feed_with_rows xs some = elim (cases_Bool (has_feed xs)) [
  | inl is ↦ is
  | inr isnt ↦ absurd (omega (arith, some, ap length (whole_none xs isnt)))
]

-- a block of a file that ends at place `end`, where no line feed follows it
module _ (at size end : ℕ) (held block : List ℕ) (is : IsBlock at size held block) (ends : at + size ≡ end) (none : has_feed (drop end held) ≡ false) where
  -- no line feed follows the block, by its size
  behind : has_feed (drop (at + size) held) ≡ false
  behind = ap (λ n. has_feed (drop n held)) ends ∙ none

  -- where the block has no whole row, no line feed comes from the block's beginning on
  pub block_none : length (whole block) ≤ 0 → has_feed (drop at held) ≡ false
  block_none no_rows = ap has_feed (block_and_rest at size held block is) ∙ feed_front block (drop (at + size) held) behind ∙ no_feed_without_rows block (omega (arith, no_rows))

  -- where the block has a whole row, the file's whole rows end where the block's do
  pub block_some : at ≤ length held → 0 < length (whole block) → at + length (whole block) ≡ length (whole held)
  block_some within rows =
      let split : held ≡ take at held ++ (block ++ drop (at + size) held) =
      sym (take-append-drop at held) ∙ ap (λ (l : List ℕ). take at held ++ l) (block_and_rest at size held block is) in
      let whole_is : whole held ≡ take at held ++ whole block =
      ap whole (split ∙ sym (append_assoc (take at held) block (drop (at + size) held)))
      ∙ whole_front (take at held ++ block) (drop (at + size) held) behind ∙ whole_behind (take at held) block (feed_with_rows block rows) in
      omega (arith, ap length whole_is, length-append (take at held) (whole block), length-take-le at held within)

-- where the first `done` bytes were appended, and then the next n, the first `done + n` were appended
pub puts_next : (old mid new : Option Life) (bytes piece : List ℕ) (done n : ℕ) → piece ≡ drop done bytes → PutsAll old mid (take done bytes)
    → Adds mid new (Append (take n piece) ∷ []) → PutsAll old new (take (done + n) bytes)
puts_next old mid new bytes piece done n is puts adds =
    subst (PutsAll old new) (ap (λ (l : List ℕ). take done bytes ++ take n l) is ∙ sym (take-add done n bytes)) (puts_more old mid new (take done bytes) (take n piece) puts adds)

-- where the first `done` bytes were appended, and then nothing more, a front of the bytes was appended
pub puts_front : (old mid new : Option Life) (bytes : List ℕ) (done : ℕ) → PutsAll old mid (take done bytes) → new ≡ mid
    → PutsFront old new bytes
puts_front old mid new bytes done puts same = (
  take done bytes,
  record { rest = drop done bytes; split = sym (take-append-drop done bytes) },
  subst (λ (life : Option Life). PutsAll old life (take done bytes)) (sym same) puts,
)

-- a block as long as the first k bytes of a buffer, which has at least k, has k bytes
pub full_block_size : (k : ℕ) (buf block : List ℕ) → k ≤ length buf → length block ≡ length (take k buf) → length block ≡ k
full_block_size k buf block within same = same ∙ length-take-le k buf within

-- where no line feed comes after the first `end` bytes of a file, and `end` is 0, the file has no whole row
pub no_row_before_end : (held : List ℕ) (end : ℕ) → end ≤ 0 → has_feed (drop end held) ≡ false → 0 ≡ length (whole held)
no_row_before_end held zero none feed = sym (ap length (whole_none held feed))
no_row_before_end held (suc end) none feed = absurd (omega (arith, none))
