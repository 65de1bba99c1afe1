-- A stream that is cut at its line feeds, piece by piece. r is what is before the bytes that are cut, since the last line
-- feed.
use Rattle.gc_lines.proofs.Common.{◌≡◌, ◌≢◌, ℕ, ◌+◌, ◌<◌, ◌≤◌, suc, Bool, true, false, not, cond, List, [], ◌∷◌, ◌++◌, length, take, drop, Some, None, refl, sym, ap, ◌∙◌, arith, append_assoc, map, subst, prefix_len, position, flat_map, AllByRecursion, append-nil, map-append, ltb-true, ltb-false, eqb-true, eq-eqb, ne_eqb, ltb, one-add, is_line_feed, pieces_behind, rest_behind, pieces, rest_of, HasNoLineFeed, IsCut, frame_of, FramesHoweverCut}
use Rattle.std.proofs.Permutation.{every_append}

-- whether a byte continues the bytes before it: it is no line feed
abbrev pub goes_on : ℕ → Bool
goes_on b = not (is_line_feed b)

-- the pieces and the rest of xs after r, where n is the place of the first line feed of xs, or the length of xs without one
record CutAt (r xs : List ℕ) (n : ℕ) : Type 0 where
  ends : length xs ≤ n → (pieces_behind r xs ≡ []) × (rest_behind r xs ≡ r ++ xs)
  goes : n < length xs
      → (pieces_behind r xs ≡ (r ++ take n xs) ∷ pieces_behind [] (drop (n + 1) xs)) × (rest_behind r xs ≡ rest_behind [] (drop (n + 1) xs))

-- if b is a line feed, `CutAt` is true of `b ∷ bs` after r, with 0 as the place of the first line feed
cut_at_head : (r bs : List ℕ) (b : ℕ) → is_line_feed b ≡ true → CutAt r (b ∷ bs) 0
cut_at_head r bs b e = record {
  ends = λ h. absurd (omega arith);
  goes = λ _. (rw e (rw (append-nil r) refl), rw e refl);
}

-- if b is no line feed, and `CutAt` is true of bs after r and b, with place n, it is true of `b ∷ bs` after r, with 1 + n
cut_at_later : (r bs : List ℕ) (b n : ℕ) → is_line_feed b ≡ false → CutAt (r ++ b ∷ []) bs n → CutAt r (b ∷ bs) (1 + n)
cut_at_later r bs b n e c = record {
  ends = λ h. let k = c.ends (omega arith) in (rw e k.0, rw e (k.1 ∙ append_assoc r (b ∷ []) bs));
  goes = λ h. let k = c.goes (omega arith) in
      let same : 1 + n + 1 ≡ suc (n + 1) = omega arith in
      (rw (e, same, one-add n) (k.0 ∙ ap (λ p. p ∷ pieces_behind [] (drop (n + 1) bs)) (append_assoc r (b ∷ []) (take n bs))), rw (e, same) k.1);
}

-- `CutAt` is true of xs after r, where n is how many bytes of xs come before its first line feed: all, if it has none
cut_at_feed : (r xs : List ℕ) → CutAt r xs (prefix_len goes_on xs)
cut_at_feed r [] = record { ends = λ _. (refl, sym (append-nil r)); goes = λ h. absurd (omega arith) }
cut_at_feed r (b ∷ bs) = elim (is_line_feed b) as (λ v. is_line_feed b ≡ v → CutAt r (b ∷ bs) (cond (not v) (1 + prefix_len goes_on bs) 0)) [
  | true ↦ λ e. cut_at_head r bs b e
  | false ↦ λ e. cut_at_later r bs b (prefix_len goes_on bs) e (cut_at_feed (r ++ b ∷ []) bs)
] refl

-- if xs has no line feed, as `position` has it, there is no piece of xs after r, and the rest is `r ++ xs`
pub cut_none : (r xs : List ℕ) → position is_line_feed xs ≡ None → (pieces_behind r xs ≡ []) × (rest_behind r xs ≡ r ++ xs)
cut_none r xs e = (cut_at_feed r xs).ends (elim (ltb (prefix_len goes_on xs) (length xs)) as
    (λ v. ltb (prefix_len goes_on xs) (length xs) ≡ v → cond v (Some (prefix_len goes_on xs)) None ≡ None → length xs ≤ prefix_len goes_on xs) [
      | true ↦ λ _ f. (cc)
      | false ↦ λ f _. ltb-false _ _ f
    ] refl e)

-- if the first line feed of xs is at place `at`, the first piece of xs after r is r and the bytes of xs before that line feed;
-- the other pieces and the rest are those of the bytes after it
pub cut_some : (r xs : List ℕ) (at : ℕ) → position is_line_feed xs ≡ Some at →
    (pieces_behind r xs ≡ (r ++ take at xs) ∷ pieces_behind [] (drop (at + 1) xs)) × (rest_behind r xs ≡ rest_behind [] (drop (at + 1) xs))
cut_some r xs at e = elim (ltb (prefix_len goes_on xs) (length xs)) as (λ v. ltb (prefix_len goes_on xs) (length xs) ≡ v → cond v (Some (prefix_len goes_on xs)) None ≡ Some at →
    (pieces_behind r xs ≡ (r ++ take at xs) ∷ pieces_behind [] (drop (at + 1) xs)) × (rest_behind r xs ≡ rest_behind [] (drop (at + 1) xs))) [
      | true ↦ λ t f. let same : prefix_len goes_on xs ≡ at = cc in rw (← same) ((cut_at_feed r xs).goes (ltb-true _ _ t))
      | false ↦ λ _ f. (cc)
    ] refl e

-- after r, the pieces of `xs ++ ys` are those of xs, and then those of ys after the rest of xs
pub pieces-append : (r xs ys : List ℕ) → pieces_behind r (xs ++ ys) ≡ pieces_behind r xs ++ pieces_behind (rest_behind r xs) ys
pieces-append r [] ys = refl
pieces-append r (x ∷ xs) ys = elim (is_line_feed x) as (λ v. cond v (r ∷ pieces_behind [] (xs ++ ys)) (pieces_behind (r ++ x ∷ []) (xs ++ ys))
    ≡ cond v (r ∷ pieces_behind [] xs) (pieces_behind (r ++ x ∷ []) xs) ++ pieces_behind (cond v (rest_behind [] xs) (rest_behind (r ++ x ∷ []) xs)) ys) [
      | true ↦ ap (λ ps. r ∷ ps) (pieces-append [] xs ys)
      | false ↦ pieces-append (r ++ x ∷ []) xs ys
    ]

-- after r, the rest of `xs ++ ys` is that of ys after the rest of xs
pub rest-append : (r xs ys : List ℕ) → rest_behind r (xs ++ ys) ≡ rest_behind (rest_behind r xs) ys
rest-append r [] ys = refl
rest-append r (x ∷ xs) ys = elim (is_line_feed x) as (λ v. cond v (rest_behind [] (xs ++ ys)) (rest_behind (r ++ x ∷ []) (xs ++ ys))
    ≡ rest_behind (cond v (rest_behind [] xs) (rest_behind (r ++ x ∷ []) xs)) ys) [
      | true ↦ rest-append [] xs ys
      | false ↦ rest-append (r ++ x ∷ []) xs ys
    ]

-- the pieces of xs after r, each with a line feed after it, and then the rest are `r ++ xs`
pub cut_whole : (r xs : List ℕ) → flat_map (λ part. part ++ 10 ∷ []) (pieces_behind r xs) ++ rest_behind r xs ≡ r ++ xs
cut_whole r [] = sym (append-nil r)
cut_whole r (x ∷ xs) = elim (is_line_feed x) as (λ v. is_line_feed x ≡ v
    → flat_map (λ part. part ++ 10 ∷ []) (cond v (r ∷ pieces_behind [] xs) (pieces_behind (r ++ x ∷ []) xs)) ++ cond v (rest_behind [] xs)
    (rest_behind (r ++ x ∷ []) xs) ≡ r ++ x ∷ xs) [
      | true ↦ λ e. let ten : x ≡ 10 = eqb-true x 10 e in
          append_assoc (r ++ 10 ∷ []) (flat_map (λ part. part ++ 10 ∷ []) (pieces_behind [] xs)) (rest_behind [] xs)
          ∙ ap (λ zs. (r ++ 10 ∷ []) ++ zs) (cut_whole [] xs) ∙ append_assoc r (10 ∷ []) xs ∙ ap (λ n. r ++ n ∷ xs) (sym ten)
      | false ↦ λ e. cut_whole (r ++ x ∷ []) xs ∙ append_assoc r (x ∷ []) xs
    ] refl

-- A stream has one cutting, as `IsCut` has it.

-- if xs has no line feed, `xs ++ ys` after r has the pieces and the rest that ys has after `r ++ xs`
pub front_joins_piece : (r xs ys : List ℕ) → HasNoLineFeed xs
    → (pieces_behind r (xs ++ ys) ≡ pieces_behind (r ++ xs) ys) × (rest_behind r (xs ++ ys) ≡ rest_behind (r ++ xs) ys)
front_joins_piece r [] ys clean = (ap (λ p. pieces_behind p ys) (sym (append-nil r)), ap (λ p. rest_behind p ys) (sym (append-nil r)))
front_joins_piece r (b ∷ bs) ys clean =
    let more = front_joins_piece (r ++ b ∷ []) bs ys clean.1 in
    let same : is_line_feed b ≡ false = ne_eqb b 10 clean.0 in
    (rw same (more.0 ∙ ap (λ p. pieces_behind p ys) (append_assoc r (b ∷ []) bs)), rw same (more.1 ∙ ap (λ p. rest_behind p ys) (append_assoc r (b ∷ []) bs)))

-- if neither the parts nor `rest` have a line feed, the parts, each with a line feed after it, and then `rest` have the parts as
-- their pieces, and `rest` as their rest
cut_parts : (parts : List (List ℕ)) (rest : List ℕ) → AllByRecursion HasNoLineFeed parts → HasNoLineFeed rest
    → (pieces_behind [] (flat_map (λ part. part ++ 10 ∷ []) parts ++ rest) ≡ parts)
    × (rest_behind [] (flat_map (λ part. part ++ 10 ∷ []) parts ++ rest) ≡ rest)
cut_parts [] rest each last =
    subst (λ (xs : List ℕ). (pieces_behind [] xs ≡ []) × (rest_behind [] xs ≡ rest)) (append-nil rest) (front_joins_piece [] rest [] last)
cut_parts (part ∷ parts) rest each last =
    let more = cut_parts parts rest each.1 last in
    let xs = flat_map (λ part. part ++ 10 ∷ []) parts ++ rest in
    let here = front_joins_piece [] part (10 ∷ xs) each.0 in
    let same : flat_map (λ part. part ++ 10 ∷ []) (part ∷ parts) ++ rest ≡ part ++ 10 ∷ xs = append_assoc (part ++ 10 ∷ []) _ rest ∙ append_assoc part (10 ∷ []) xs in
    (ap (pieces_behind []) same ∙ here.0 ∙ ap (λ ps. part ∷ ps) more.0, ap (rest_behind []) same ∙ here.1 ∙ more.1)

-- if r has no line feed, no piece of xs after r has one, and neither has the rest
cut_has_no_feed : (r xs : List ℕ) → HasNoLineFeed r → AllByRecursion HasNoLineFeed (pieces_behind r xs) × HasNoLineFeed (rest_behind r xs)
cut_has_no_feed r [] clean = (tt, clean)
cut_has_no_feed r (b ∷ bs) clean = elim (is_line_feed b) as (λ v. is_line_feed b ≡ v
    → AllByRecursion HasNoLineFeed (cond v (r ∷ pieces_behind [] bs) (pieces_behind (r ++ b ∷ []) bs))
    × HasNoLineFeed (cond v (rest_behind [] bs) (rest_behind (r ++ b ∷ []) bs))) [
      | true ↦ λ _. let more = cut_has_no_feed [] bs tt in ((clean, more.0), more.1)
      | false ↦ λ e. cut_has_no_feed (r ++ b ∷ []) bs (every_append (λ x. x ≢ 10) r (b ∷ []) clean ((λ same. let t = eq-eqb b 10 same in (cc)), tt))
    ] refl

-- if a stream is cut into parts and a rest, as `IsCut` has it, these are its pieces and its rest
pub one_cut : (stream : List ℕ) (parts : List (List ℕ)) (rest : List ℕ) → IsCut stream parts rest → (parts ≡ pieces stream) × (rest ≡ rest_of stream)
one_cut stream parts rest cut =
    let c = cut_parts parts rest cut.each cut.last in
    (sym c.0 ∙ ap (pieces_behind []) (sym cut.whole), sym c.1 ∙ ap (rest_behind []) (sym cut.whole))

-- the pieces and the rest of a stream are a cutting of it, as `IsCut` has it
pub is_cut_of : (stream : List ℕ) → IsCut stream (pieces stream) (rest_of stream)
is_cut_of stream = let clean = cut_has_no_feed [] stream tt in record { whole = sym (cut_whole [] stream); each = clean.0; last = clean.1 }

-- the law: `xs ++ ys` has the frames of xs and then those of the rest of xs with ys after it, and its rest is that of the latter
pub however_cut : FramesHoweverCut
however_cut xs ys =
    let b = front_joins_piece [] (rest_of xs) ys (cut_has_no_feed [] xs tt).1 in (
      ap (λ ps. map frame_of ps) (pieces-append [] xs ys ∙ ap (λ ps. pieces xs ++ ps) (sym b.0)) ∙ map-append frame_of (pieces xs) (pieces (rest_of xs ++ ys)),
      rest-append [] xs ys ∙ sym b.1,
    )
