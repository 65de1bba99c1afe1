-- A piece of a parameter list without the spaces at its ends, which is its item.
use Rattle.gc_values.proofs.Common.{◌≡◌, ℕ, zero, suc, ◌+◌, ◌-◌, ◌<◌, ◌≤◌, ◌⊎◌, length, get_or, take, drop, cond, List, [], ◌∷◌, ◌++◌, replicate, refl, sym, ap, ◌∙◌, subst, inl, inr, arith, append_assoc, append-nil, same_from_push, take-append-drop, take_all, take_more, drop_more, cases_eq, eq-eqb, ne_eqb, quotes, HasCommasInQuotes, StartsNoSpace, EndsNoSpace, IsPadded, IsParam, AreSpaces, without_front_spaces, put_before, without_end_spaces, TrimsFront, TrimsBack, IsTrimmed}
use Rattle.gc_values.proofs.Quotes.{IsPiece, empty_has_none, quotes-append, quotes_same, quotes-spaces, HasCommasInQuotes-push}

-- spaces before a text leave its commas within quotes
HasCommasInQuotes-spaces_before : (n : ℕ) (xs : List ℕ) → HasCommasInQuotes xs → HasCommasInQuotes (replicate n 32 ++ xs)
HasCommasInQuotes-spaces_before zero xs keeps front rest e = keeps front rest e
HasCommasInQuotes-spaces_before (suc n) xs keeps [] rest e = let h : ◌≡◌ {A = ℕ} 32 44 = cc in absurd (omega (arith, h))
HasCommasInQuotes-spaces_before (suc n) xs keeps (f ∷ fs) rest e =
    let head : f ≡ 32 = cc in
    let tail : replicate n 32 ++ xs ≡ fs ++ 44 ∷ rest = cc in
    let other : quotes (f ∷ fs) ≡ quotes fs = subst (λ b. quotes (b ∷ fs) ≡ quotes fs) (sym head) (quotes_same 32 fs refl) in
    let odd = HasCommasInQuotes-spaces_before n xs keeps fs rest tail in
    omega (arith, odd, other)

-- spaces after a text leave its commas within quotes
HasCommasInQuotes-spaces_after : (n : ℕ) (xs : List ℕ) → HasCommasInQuotes xs → HasCommasInQuotes (xs ++ replicate n 32)
HasCommasInQuotes-spaces_after zero xs keeps = subst HasCommasInQuotes (sym (append-nil xs)) keeps
HasCommasInQuotes-spaces_after (suc n) xs keeps =
    let more : HasCommasInQuotes (xs ++ 32 ∷ []) = HasCommasInQuotes-push xs 32 keeps (λ h. omega (arith, h)) in
    subst HasCommasInQuotes (append_assoc xs (32 ∷ []) (replicate n 32)) (HasCommasInQuotes-spaces_after n (xs ++ 32 ∷ []) more)

-- the quotes of a padded item are the item's
pub quotes-padded : (piece item : List ℕ) → IsPadded piece item → quotes piece ≡ quotes item
quotes-padded piece item p =
    ap quotes p.piece_is ∙ omega (
      arith,
      quotes-append (replicate p.before 32) (item ++ replicate p.behind 32),
      quotes-append item
          (replicate p.behind 32),
      quotes-spaces p.before,
      quotes-spaces p.behind,
    )

-- a parameter with spaces round it has its commas within quotes
pub HasCommasInQuotes-padded : (piece item : List ℕ) → IsPadded piece item → IsParam item → HasCommasInQuotes piece
HasCommasInQuotes-padded piece item p h =
    subst HasCommasInQuotes (sym p.piece_is) (HasCommasInQuotes-spaces_before p.before (item ++ replicate p.behind 32) (HasCommasInQuotes-spaces_after p.behind item h.commas))

-- bytes with a comma among them may be grouped round the comma
regroup_at_comma : (a b c d : List ℕ) → a ++ ((b ++ 44 ∷ c) ++ d) ≡ (a ++ b) ++ 44 ∷ (c ++ d)
regroup_at_comma a b c d = simp append_assoc

-- a piece, without the spaces at its ends, is a parameter
pub trimmed_is_param : (piece item : List ℕ) → IsTrimmed piece item → IsPiece piece → IsParam item
trimmed_is_param piece item t is =
    let p = t.padded in
    let same = quotes-padded piece item p in
    let even = is.even in
    record {
      first = t.first;
      last = t.last;
      pairs = omega (arith, same, even);
      commas = λ front rest e.
          let whole : piece ≡ (replicate p.before 32 ++ front) ++ 44 ∷ (rest ++ replicate p.behind 32) =
          p.piece_is ∙ ap (λ xs. replicate p.before 32 ++ (xs ++ replicate p.behind 32)) e ∙ regroup_at_comma (replicate p.before 32) front rest (replicate p.behind 32) in
          let odd = is.keeps _ _ whole in
          omega (arith, odd, quotes-append (replicate p.before 32) front, quotes-spaces p.before);
    }

-- spaces in front don't change what `without_front_spaces` leaves
front_spaces_left_out : (n : ℕ) (xs : List ℕ) → without_front_spaces (replicate n 32 ++ xs) ≡ without_front_spaces xs
front_spaces_left_out zero xs = refl
front_spaces_left_out (suc n) xs = front_spaces_left_out n xs

-- `without_front_spaces` leaves a text without a space in front as it is
front_spaces_same : (xs : List ℕ) → StartsNoSpace xs → without_front_spaces xs ≡ xs
front_spaces_same [] h = refl
front_spaces_same (b ∷ bs) h = ap (λ c. cond c (without_front_spaces bs) (b ∷ bs)) (ne_eqb b 32 (λ e. h bs (ap (λ x. x ∷ bs) e)))

-- `without_end_spaces` leaves nothing of spaces alone
end_spaces_left_out : (n : ℕ) → without_end_spaces (replicate n 32) ≡ []
end_spaces_left_out zero = refl
end_spaces_left_out (suc n) = ap (put_before 32) (end_spaces_left_out n)

-- `put_before` leaves a byte in front, where the text with it doesn't end in a space
put_before_same : (b : ℕ) (bs : List ℕ) → EndsNoSpace (b ∷ bs) → put_before b bs ≡ b ∷ bs
put_before_same b [] h = ap (λ c. cond c [] (b ∷ [])) (ne_eqb b 32 (λ e. h [] (ap (λ x. x ∷ []) e)))
put_before_same b (x ∷ xs) h = refl

-- a text without spaces at its end still has none there when its first byte is taken off
EndsNoSpace-tail : (b : ℕ) (bs : List ℕ) → EndsNoSpace (b ∷ bs) → EndsNoSpace bs
EndsNoSpace-tail b bs h front e = h (b ∷ front) (ap (λ xs. b ∷ xs) e)

-- `without_end_spaces` takes off just the spaces that follow a text without a space at its end
end_spaces_same : (xs : List ℕ) (n : ℕ) → EndsNoSpace xs → without_end_spaces (xs ++ replicate n 32) ≡ xs
end_spaces_same [] n h = end_spaces_left_out n
end_spaces_same (b ∷ bs) n h = ap (put_before b) (end_spaces_same bs n (EndsNoSpace-tail b bs h)) ∙ put_before_same b bs h

-- a text without a space in front is empty, or has none in front when spaces are put after it
empty_or_starts_no_space : (xs : List ℕ) (n : ℕ) → StartsNoSpace xs → (xs ≡ []) ⊎ (StartsNoSpace (xs ++ replicate n 32))
empty_or_starts_no_space [] n h = inl refl
empty_or_starts_no_space (b ∷ bs) n h = inr (λ rest e. h bs (let head : b ≡ 32 = cc in ap (λ x. x ∷ bs) head))

-- a text without spaces at its ends, with spaces put after it, is trimmed back to that text
trims_once : (n : ℕ) (xs : List ℕ) → StartsNoSpace xs → EndsNoSpace xs → without_end_spaces (without_front_spaces (xs ++ replicate n 32)) ≡ xs
trims_once n xs f l = elim (empty_or_starts_no_space xs n f) [
  | inl h ↦ ap (λ ys. without_end_spaces (without_front_spaces (ys ++ replicate n 32))) h ∙ ap without_end_spaces
      (let e : without_front_spaces (replicate n 32) ≡ [] = ap without_front_spaces (sym (append-nil (replicate n 32))) ∙ front_spaces_left_out n [] in e) ∙ sym h
  | inr h ↦ ap without_end_spaces (front_spaces_same (xs ++ replicate n 32) h) ∙ end_spaces_same xs n l
]

-- a piece without the spaces at its ends is what `without_front_spaces` and then `without_end_spaces` leave of it
pub trimmed_from_both_ends : (piece item : List ℕ) → IsTrimmed piece item → item ≡ without_end_spaces (without_front_spaces piece)
trimmed_from_both_ends piece item t =
    let p = t.padded in
    sym (ap (λ xs. without_end_spaces (without_front_spaces xs)) p.piece_is ∙ ap without_end_spaces (front_spaces_left_out p.before (item ++ replicate p.behind 32))
    ∙ trims_once p.behind item t.first t.last)

-- a piece has at most one trimmed item
pub one_trimmed : (piece x y : List ℕ) → IsTrimmed piece x → IsTrimmed piece y → x ≡ y
one_trimmed piece x y s t = trimmed_from_both_ends piece x s ∙ sym (trimmed_from_both_ends piece y t)

-- a parameter with spaces round it is trimmed to the parameter
pub param_is_trimmed : (piece item : List ℕ) → IsPadded piece item → IsParam item → IsTrimmed piece item
param_is_trimmed piece item p h = record { padded = p; first = h.first; last = h.last }

-- `without_front_spaces` trims every text at its front
trims_front : (xs : List ℕ) → TrimsFront xs (without_front_spaces xs)
trims_front [] = record { count = 0; text_is = refl; first = λ rest e. cc }
trims_front (b ∷ bs) = elim (cases_eq b 32) [
  | inl h ↦
      let r = trims_front bs in
      let off : without_front_spaces (b ∷ bs) ≡ without_front_spaces bs = ap (λ c. cond c (without_front_spaces bs) (b ∷ bs)) (eq-eqb b 32 h) in
      subst (λ ys. TrimsFront (b ∷ bs) ys) (sym off) (record { count = suc r.count; text_is = let t = r.text_is in cc; first = r.first })
  | inr h ↦
      let off : without_front_spaces (b ∷ bs) ≡ b ∷ bs = ap (λ c. cond c (without_front_spaces bs) (b ∷ bs)) (ne_eqb b 32 h) in
      subst (λ ys. TrimsFront (b ∷ bs) ys) (sym off) (record { count = 0; text_is = refl; first = λ rest e. h (let head : b ≡ 32 = cc in head) })
]

-- a text of at least one byte that doesn't end in a space still doesn't with a byte before it
EndsNoSpace-cons : (b x : ℕ) (xs : List ℕ) → EndsNoSpace (x ∷ xs) → EndsNoSpace (b ∷ x ∷ xs)
EndsNoSpace-cons b x xs h [] e = cc
EndsNoSpace-cons b x xs h (f ∷ fs) e = let t : x ∷ xs ≡ fs ++ 32 ∷ [] = cc in h fs t

-- if a text is trimmed at its end, the text with one more byte in front is trimmed to what `put_before` gives
TrimsBack-cons : (b : ℕ) (bs item : List ℕ) → TrimsBack bs item → TrimsBack (b ∷ bs) (put_before b item)
TrimsBack-cons b bs [] r = elim (cases_eq b 32) [
  | inl h ↦
      let off : put_before b [] ≡ [] = ap (λ c. cond c [] (b ∷ [])) (eq-eqb b 32 h) in
      subst (λ ys. TrimsBack (b ∷ bs) ys) (sym off) (record { count = suc r.count; text_is = let t = r.text_is in cc; last = λ front e. empty_has_none front [] 32 e })
  | inr h ↦
      let off : put_before b [] ≡ b ∷ [] = ap (λ c. cond c [] (b ∷ [])) (ne_eqb b 32 h) in
      subst (λ ys. TrimsBack (b ∷ bs) ys) (sym off) (record { count = r.count; text_is = let t = r.text_is in cc; last = λ front e. h (same_from_push [] front b 32 e).1 })
]
TrimsBack-cons b bs (x ∷ xs) r = record {
  count = r.count;
  text_is = let t = r.text_is in cc;
  last = EndsNoSpace-cons b x xs r.last;
}

-- `without_end_spaces` trims every text at its end
trims_back : (xs : List ℕ) → TrimsBack xs (without_end_spaces xs)
trims_back [] = record { count = 0; text_is = refl; last = λ front e. empty_has_none front [] 32 e }
trims_back (b ∷ bs) = TrimsBack-cons b bs (without_end_spaces bs) (trims_back bs)

-- trimming the front and then the end trims both
pub trims_both_ends : (text middle item : List ℕ) → TrimsFront text middle → TrimsBack middle item → IsTrimmed text item
trims_both_ends text middle item f b = record {
  padded = record { before = f.count; behind = b.count; piece_is = f.text_is ∙ ap (λ xs. replicate f.count 32 ++ xs) b.text_is };
  first = λ rest e. f.first (rest ++ replicate b.count 32) (b.text_is ∙ ap (λ xs. xs ++ replicate b.count 32) e);
  last = b.last;
}

-- `without_front_spaces` and then `without_end_spaces` trim every text at both ends
pub trimmed_exists : (text : List ℕ) → IsTrimmed text (without_end_spaces (without_front_spaces text))
trimmed_exists text = trims_both_ends text (without_front_spaces text) _ (trims_front text) (trims_back (without_front_spaces text))

-- if a loop from the front passed i spaces and stops at another byte, the bytes from place i on are the text without the
-- spaces at its front
pub trims_front_at : (text : List ℕ) (i : ℕ) → i < length text → take i text ≡ replicate i 32 → (get_or text i 0 ≡ 32 → ⊥) → TrimsFront text (drop i text)
trims_front_at text i within spaces other = record {
  count = i;
  text_is = sym (take-append-drop i text) ∙ ap (λ xs. xs ++ drop i text) spaces;
  first = λ rest e. other (let d = drop_more text i 0 within in cc);
}

-- if the first i bytes of a text are spaces, and the text has no more, the text without the spaces at its front is empty
pub trims_front_all : (text : List ℕ) (i : ℕ) → length text ≤ i → take i text ≡ replicate i 32 → TrimsFront text []
trims_front_all text i all spaces = record {
  count = i;
  text_is = sym (take_all i text all) ∙ spaces ∙ sym (append-nil (replicate i 32));
  first = λ rest e. cc;
}

-- if the text from `end` on is spaces, and a space is before that, the text from `end - 1` on is spaces, too
pub end_spaces_more : (text : List ℕ) (end : ℕ) → 0 < end → end ≤ length text → drop end text ≡ replicate (length text - end) 32
    → get_or text (end - 1) 0 ≡ 32
    → drop (end - 1) text ≡ replicate (length text - (end - 1)) 32
end_spaces_more text end some within spaces here =
    let back : end - 1 + 1 ≡ end = omega arith in
    let size : suc (length text - end) ≡ length text - (end - 1) = omega arith in
    drop_more text (end - 1) 0 (omega arith) ∙ ap (λ b. b ∷ drop (end - 1 + 1) text) here ∙ ap (λ i. 32 ∷ drop i text) back ∙ ap (λ xs. 32 ∷ xs) spaces ∙ ap (λ n. replicate n 32) size

-- if a loop from the end passed the spaces from place `end` on, and stops at the front of the text or after another byte, the
-- bytes before `end` are the text without the spaces at its end
pub trims_back_at : (text : List ℕ) (end : ℕ) → end ≤ length text → drop end text ≡ replicate (length text - end) 32
    → (end ≡ 0) ⊎ ((0 < end) × (get_or text (end - 1) 0 ≡ 32 → ⊥)) → TrimsBack text (take end text)
trims_back_at text end within spaces stop = record {
  count = length text - end;
  text_is = sym (take-append-drop end text) ∙ ap (λ xs. take end text ++ xs) spaces;
  last = λ front e. elim stop [
    | inl none ↦ empty_has_none front [] 32 (sym (ap (λ i. take i text) none) ∙ e)
    | inr some ↦
        let back : end - 1 + 1 ≡ end = let h = some.0 in omega arith in
        let more : take end text ≡ take (end - 1) text ++ get_or text (end - 1) 0 ∷ [] = ap (λ i. take i text) (sym back) ∙ take_more text (end - 1) 0 (let h = some.0 in omega arith) in
        let ends = same_from_push (take (end - 1) text) front (get_or text (end - 1) 0) 32 (sym more ∙ e) in
        some.1 ends.1
  ];
}

-- spaces, and then a text that begins with a byte other than a space, aren't n spaces, whatever n
first_not_space : (b : ℕ) (bs : List ℕ) (m n : ℕ) → StartsNoSpace (b ∷ bs) → replicate m 32 ++ b ∷ bs ≡ replicate n 32 → ⊥
first_not_space b bs zero zero h e = cc
first_not_space b bs zero (suc n) h e = let head : b ≡ 32 = cc in h bs (ap (λ x. x ∷ bs) head)
first_not_space b bs (suc m) zero h e = cc
first_not_space b bs (suc m) (suc n) h e = let t : replicate m 32 ++ b ∷ bs ≡ replicate n 32 = cc in first_not_space b bs m n h t

-- a text that has at least one byte left without the spaces at its front isn't spaces alone
pub front_not_spaces : (text item : List ℕ) → TrimsFront text item → 0 < length item → AreSpaces text → ⊥
front_not_spaces text [] t some s = omega arith
front_not_spaces text (b ∷ bs) t some s = first_not_space b bs t.count s.0 t.first (sym t.text_is ∙ s.1)
