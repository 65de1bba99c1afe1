-- Lines of a log: each byte reads back, and so does each line. A log line is a moment, a space, a mark (which says whether
-- bytes went or came, whole or in part, or that it is about the link), a space and the escaped bytes.
use Rattle.gc_texts.proofs.Common.{◌≡◌, ◌≢◌, ℕ, ◌+◌, ◌/◌, ◌%◌, ◌<◌, ◌≤◌, true, false, cond, List, [], ◌∷◌, ◌++◌, length, Option, Some, None, refl, sym, ap, subst, ◌∙◌, arith, append_assoc, append-nil, AllByRecursion, div-add-mod, cond_both, eqb-true, ltb-true, ltb-false, recursion_from_All, All-from_recursion, same_Some, Lacks, Cuts, mark_text, is_unescaped, hex_digit, escape, escaped, AreBytes, BeginsWithNoByte, IsPrintable, IsLogLine, LogMark, Went, WentPart, Came, CamePart, Link}
use Rattle.std.proofs.Common.{length-append}
use Rattle.std.specs.Prelude.{nat_lt, ◌==◌, codes}
use Rattle.gc_texts.proofs.Cutting.{lacks_by_test, cut_found, one_front}

-- a text is of bytes: each of its numbers is below 256. `AreBytes` says the same by places, and this by recursion
abbrev pub IsOfBytes : List ℕ → Type 0
IsOfBytes text = AllByRecursion (λ b. b < 256) text

-- a text that is of bytes by places (`AreBytes`) is so by recursion
pub bytes_by_recursion : (text : List ℕ) → AreBytes text → IsOfBytes text
bytes_by_recursion text are = recursion_from_All (λ b. b < 256) text are

-- a text that is of bytes by recursion is so by places (`AreBytes`)
pub bytes_by_places : (text : List ℕ) → IsOfBytes text → AreBytes text
bytes_by_places text is = All-from_recursion (λ b. b < 256) text is

-- a byte's text is it alone, where it is written as it is (`is_unescaped`), and else `\x` and its two digits
data IsEscape (b : ℕ) (text : List ℕ) : Type 0 where
  as_it_is : is_unescaped b ≡ true → text ≡ b ∷ [] → IsEscape b text
  as_digits : is_unescaped b ≡ false → text ≡ 92 ∷ 120 ∷ hex_digit (b / 16) ∷ hex_digit (b % 16) ∷ [] → IsEscape b text

-- the escaped form of a byte is that byte, or `\x` and its two digits
escape_has_form : (b : ℕ) → IsEscape b (escape b)
escape_has_form b = cond_both (is_unescaped b) (b ∷ []) (92 ∷ 120 ∷ hex_digit (b / 16) ∷ hex_digit (b % 16) ∷ []) (IsEscape b) (λ is. as_it_is is refl) (λ is. as_digits is refl)

-- two digits of base 16 that are written alike are the same
one_hex_digit : (m n : ℕ) → hex_digit m ≡ hex_digit n → m < 16 → n < 16 → m ≡ n
one_hex_digit m n same small few =
    cond_both (nat_lt m 10) (48 + m) (87 + m) (λ d. d ≡ hex_digit n → m ≡ n)
    (λ a. cond_both (nat_lt n 10) (48 + n) (87 + n) (λ d. 48 + m ≡ d → m ≡ n) (λ b e. omega (arith, e)) (λ b e. absurd (omega (arith, e, small, few, ltb-true m 10 a, ltb-false n 10 b))))
    (λ a. cond_both (nat_lt n 10) (48 + n) (87 + n) (λ d. 87 + m ≡ d → m ≡ n) (λ b e. absurd (omega (arith, e, small, few, ltb-false m 10 a, ltb-true n 10 b))) (λ b e. omega (arith, e)))
    same

-- a byte that is written as it is isn't the backslash
not_a_backslash : (b : ℕ) → is_unescaped b ≡ true → b ≡ 92 → ⊥
not_a_backslash b is e = let bad : false ≡ true = subst (λ x. is_unescaped x ≡ true) e is in cc

-- the first of a byte's two digits of base 16 is below 16
pub high_digit_small : (b : ℕ) → b < 256 → b / 16 < 16
high_digit_small b h = omega (arith, h, div-add-mod b 16)

-- the second of a byte's two digits of base 16 is below 16
low_digit_small : (b : ℕ) → b % 16 < 16
low_digit_small b = omega arith

-- where two texts are equal, and each is an escaped byte and a rest, the bytes are equal, and the rests are
one_escaped_byte : (b c : ℕ) (s t xs ys : List ℕ) (small : b < 256) (few : c < 256) (one : IsEscape b s) (other : IsEscape c t)
    → s ++ xs ≡ t ++ ys → (b ≡ c) × (xs ≡ ys)
one_escaped_byte b c s t xs ys small few (as_it_is is so) (as_it_is was to) e =
    let same : b ∷ xs ≡ c ∷ ys = sym (ap (λ z. z ++ xs) so) ∙ e ∙ ap (λ z. z ++ ys) to in
    (cc, cc)
one_escaped_byte b c s t xs ys small few (as_it_is is so) (as_digits was to) e =
    let same : b ∷ xs ≡ 92 ∷ 120 ∷ hex_digit (c / 16) ∷ hex_digit (c % 16) ∷ ys = sym (ap (λ z. z ++ xs) so) ∙ e ∙ ap (λ z. z ++ ys) to in
    absurd (not_a_backslash b is cc)
one_escaped_byte b c s t xs ys small few (as_digits is so) (as_it_is was to) e =
    let same : 92 ∷ 120 ∷ hex_digit (b / 16) ∷ hex_digit (b % 16) ∷ xs ≡ c ∷ ys = sym (ap (λ z. z ++ xs) so) ∙ e ∙ ap (λ z. z ++ ys) to in
    absurd (not_a_backslash c was cc)
one_escaped_byte b c s t xs ys small few (as_digits is so) (as_digits was to) e =
    let same : 92 ∷ 120 ∷ hex_digit (b / 16) ∷ hex_digit (b % 16) ∷ xs ≡ 92 ∷ 120 ∷ hex_digit (c / 16) ∷ hex_digit (c % 16) ∷ ys = sym (ap (λ z. z ++ xs) so) ∙ e ∙ ap (λ z. z ++ ys) to in
    let highs : hex_digit (b / 16) ≡ hex_digit (c / 16) = cc in
    let lows : hex_digit (b % 16) ≡ hex_digit (c % 16) = cc in
    let high = one_hex_digit (b / 16) (c / 16) highs (high_digit_small b small) (high_digit_small c few) in
    let low = one_hex_digit (b % 16) (c % 16) lows (low_digit_small b) (low_digit_small c) in
    (omega (arith, high, low, div-add-mod b 16, div-add-mod c 16), cc)

-- the escaped form of a byte, with whatever after it, isn't empty
escape_not_empty : (b : ℕ) (s xs : List ℕ) → IsEscape b s → s ++ xs ≡ [] → ⊥
escape_not_empty b s xs (as_it_is is so) e = let bad : b ∷ xs ≡ [] = sym (ap (λ z. z ++ xs) so) ∙ e in cc
escape_not_empty b s xs (as_digits is so) e = let bad : 92 ∷ 120 ∷ hex_digit (b / 16) ∷ hex_digit (b % 16) ∷ xs ≡ [] = sym (ap (λ z. z ++ xs) so) ∙ e in cc

-- `all` are the bytes `bytes`, which were read, and then `more`, whose escaped form is `left`
record IsRestOf (bytes left all : List ℕ) : Type 0 where
  more : List ℕ
  joins : all ≡ bytes ++ more
  are : IsOfBytes more
  so : left ≡ escaped more

-- where the escaped form of `bytes`, and then `left`, is the escaped form of `all`, `left` is the escaped form of what `all` has
-- after `bytes` (`IsRestOf`)
left_is_rest : (bytes left all : List ℕ) → IsOfBytes bytes → IsOfBytes all
    → escaped bytes ++ left ≡ escaped all → IsRestOf bytes left all
left_is_rest [] left all h k e = record { more = all; joins = refl; are = k; so = e }
left_is_rest (b ∷ bs) left [] h k e = absurd (escape_not_empty b (escape b) (escaped bs ++ left) (escape_has_form b) (sym (append_assoc (escape b) (escaped bs) left) ∙ e))
left_is_rest (b ∷ bs) left (c ∷ cs) h k e =
    let one = one_escaped_byte b c (escape b) (escape c) (escaped bs ++ left) (escaped cs) h.0 k.0 (escape_has_form b) (escape_has_form c) (sym (append_assoc (escape b) (escaped bs) left) ∙ e) in
    let next = left_is_rest bs left cs h.1 k.1 one.1 in
    record { more = next.more; joins = ap (λ x. x ∷ cs) (sym one.0) ∙ ap (λ l. b ∷ l) next.joins; are = next.are; so = next.so }

-- how far the reading of a text has come: it is the escaped form of `bytes`, which were read, and after that `left`, which
-- wasn't
pub record ReadsBytes (text bytes left : List ℕ) : Type 0 where
  pub so : text ≡ escaped bytes ++ left
  pub are : AreBytes bytes

-- a list whose length isn't 0 isn't empty
pub left_not_empty : (left : List ℕ) → false ≡ (length left == 0) → left ≢ []
left_not_empty left some none = let bad : false ≡ true = some ∙ ap (λ l. length l == 0) none in cc

-- a number that the test says is 514 is at least 514
pub full_is_514 : (n : ℕ) → true ≡ (n == 514) → 514 ≤ n
full_is_514 n full = omega (arith, eqb-true n 514 (sym full))

-- a text that isn't empty, and doesn't begin with an escaped byte, isn't the escaped form of any bytes
not_escaped_without_byte : (left more : List ℕ) → left ≢ [] → BeginsWithNoByte left → IsOfBytes more → left ≡ escaped more → ⊥
not_escaped_without_byte left [] some none h e = some e
not_escaped_without_byte left (b ∷ bs) some none h e = none b (escaped bs) h.0 e

-- where what is left of a text isn't empty, and doesn't begin with an escaped byte, the text isn't the escaped form of any
-- bytes
pub reads_no_more : (text bytes left : List ℕ) (read : ReadsBytes text bytes left) (some : left ≢ []) (none : BeginsWithNoByte left)
    → (all : List ℕ) → AreBytes all → text ≡ escaped all → ⊥
reads_no_more text bytes left h some none all are e =
    let k = left_is_rest bytes left all (bytes_by_recursion bytes h.are) (bytes_by_recursion all are) (sym h.so ∙ e) in
    not_escaped_without_byte left k.more some none k.are k.so

-- where a text isn't empty, and is the escaped form of bytes, there is at least one byte
some_bytes_left : (left more : List ℕ) → left ≢ [] → left ≡ escaped more → 0 < length more
some_bytes_left left [] some e = absurd (some e)
some_bytes_left left (b ∷ bs) some e = omega arith

-- where at least 514 bytes were read and something is left, the text isn't the escaped form of at most 514 bytes
pub reads_too_many : (text bytes left : List ℕ) (read : ReadsBytes text bytes left) (some : left ≢ []) (full : 514 ≤ length bytes)
    → (all : List ℕ) → length all ≤ 514 → AreBytes all → text ≡ escaped all → ⊥
reads_too_many text bytes left h some full all room are e =
    let k = left_is_rest bytes left all (bytes_by_recursion bytes h.are) (bytes_by_recursion all are) (sym h.so ∙ e) in
    omega (arith, full, room, ap length k.joins, length-append bytes k.more, some_bytes_left left k.more some k.so)

-- where `ys` are `xs` and then `more`, and the escaped form of `more` is empty, `xs` are `ys`
all_bytes_were_read : (xs ys more : List ℕ) → ys ≡ xs ++ more → [] ≡ escaped more → xs ≡ ys
all_bytes_were_read xs ys [] joins so = sym (joins ∙ append-nil xs)
all_bytes_were_read xs ys (b ∷ bs) joins so = absurd (escape_not_empty b (escape b) (escaped bs) (escape_has_form b) (sym so))

-- two lists of bytes with the same escaped form are the same
pub escaped_injective : (xs ys : List ℕ) → AreBytes xs → AreBytes ys → escaped xs ≡ escaped ys → xs ≡ ys
escaped_injective xs ys h j e =
    let k = left_is_rest xs [] ys (bytes_by_recursion xs h) (bytes_by_recursion ys j) (append-nil (escaped xs) ∙ e) in
    all_bytes_were_read xs ys k.more k.joins k.so

-- a mark has no space
mark_lacks_space : (mark : LogMark) → Lacks 32 (mark_text mark)
mark_lacks_space Went = lacks_by_test 32 (codes ">") refl
mark_lacks_space WentPart = lacks_by_test 32 (codes ">|") refl
mark_lacks_space Came = lacks_by_test 32 (codes "<") refl
mark_lacks_space CamePart = lacks_by_test 32 (codes "<|") refl
mark_lacks_space Link = lacks_by_test 32 (codes "-") refl

-- the parts of a log line, cut at its spaces, and which lines are none
module _
    (line front : List ℕ) (rest : Option (List ℕ)) (cut : Cuts 32 line front rest)
    (moment : List ℕ) (mark : LogMark) (bytes : List ℕ) (is : IsLogLine line moment mark bytes) where
  -- the moment is before the first space, and the mark and the escaped bytes are after it
  moment_cut : (front ≡ moment) × (rest ≡ Some (mark_text mark ++ 32 ∷ escaped bytes))
  moment_cut = cut_found 32 line front rest moment (mark_text mark ++ 32 ∷ escaped bytes) cut is.is is.one_word

  -- a line whose first word isn't printable is no log line
  pub unprintable_is_no_log_line : (IsPrintable front → ⊥) → ⊥
  unprintable_is_no_log_line none = none (subst IsPrintable (sym moment_cut.0) is.is_printable)

  -- the mark is before the second space, and the escaped bytes are after it
  mark_cut : (behind word : List ℕ) (text : Option (List ℕ)) → rest ≡ Some behind → Cuts 32 behind word text
      → (word ≡ mark_text mark) × (text ≡ Some (escaped bytes))
  mark_cut behind word text so next =
      cut_found 32 behind word text (mark_text mark) (escaped bytes) next (same_Some behind _ (sym so ∙ moment_cut.1)) (mark_lacks_space mark)

  -- a line without a space is no log line
  pub unspaced_is_no_log_line : rest ≡ None → ⊥
  unspaced_is_no_log_line none = let bad : None ≡ Some (mark_text mark ++ 32 ∷ escaped bytes) = sym none ∙ moment_cut.1 in cc

  -- a line without a second space is no log line
  pub half_spaced_is_no_log_line : (behind word : List ℕ) (text : Option (List ℕ)) → rest ≡ Some behind → Cuts 32 behind word text → text ≡ None → ⊥
  half_spaced_is_no_log_line behind word text so next none =
      let bad : None ≡ Some (escaped bytes) = sym none ∙ (mark_cut behind word text so next).1 in cc

  -- a line whose second word is no mark is no log line
  pub markless_is_no_log_line : (behind word : List ℕ) (text : Option (List ℕ)) → rest ≡ Some behind → Cuts 32 behind word text
      → ((m : LogMark) → word ≡ mark_text m → ⊥) → ⊥
  markless_is_no_log_line behind word text so next none = none mark (mark_cut behind word text so next).0

  -- if the text after a line's mark isn't the escaped form of any list of at most 514 bytes, the line is no log line of at most
  -- 514 bytes
  pub unescaped_is_no_log_line : (behind word text : List ℕ) → rest ≡ Some behind → Cuts 32 behind word (Some text) → length bytes ≤ 514
      → ((all : List ℕ) → length all ≤ 514 → AreBytes all → text ≡ escaped all → ⊥) → ⊥
  unescaped_is_no_log_line behind word text so next room none = none bytes room is.are_bytes (same_Some text (escaped bytes) (mark_cut behind word (Some text) so next).1)

-- one of two marks by the text after a mark's first byte: `whole` where there is none, else `part`
mark_by_end : List ℕ → (whole part : LogMark) → LogMark
mark_by_end [] whole part = whole
mark_by_end (b ∷ bs) whole part = part

-- the mark that a text spells, by its first byte (62 is `>`, 60 is `<`) and whether there is a second; `Link` for any other
-- text
mark_from : List ℕ → LogMark
mark_from [] = Link
mark_from (b ∷ bs) = cond (b == 62) (mark_by_end bs Went WentPart) (cond (b == 60) (mark_by_end bs Came CamePart) Link)

-- the text of a mark is read as that mark
mark_reads_back : (m : LogMark) → mark_from (mark_text m) ≡ m
unfolding mark_by_end mark_from
mark_reads_back Went = refl
mark_reads_back WentPart = refl
mark_reads_back Came = refl
mark_reads_back CamePart = refl
mark_reads_back Link = refl

-- two marks with the same text are the same
one_mark : (m k : LogMark) → mark_text m ≡ mark_text k → m ≡ k
one_mark m k e = sym (mark_reads_back m) ∙ ap mark_from e ∙ mark_reads_back k

-- a text is a log line in one way at most
pub one_log_line : (text : List ℕ) (m k : List ℕ) (a b : LogMark) (xs ys : List ℕ)
    → IsLogLine text m a xs → IsLogLine text k b ys → (m ≡ k) × (a ≡ b) × (xs ≡ ys)
one_log_line text m k a b xs ys one other =
    let first = one_front 32 m k (mark_text a ++ 32 ∷ escaped xs) (mark_text b ++ 32 ∷ escaped ys) (sym one.is ∙ other.is) one.one_word other.one_word in
    let second = one_front 32 (mark_text a) (mark_text b) (escaped xs) (escaped ys) first.1 (mark_lacks_space a) (mark_lacks_space b) in
    (first.0, one_mark a b second.0, escaped_injective xs ys one.are_bytes other.are_bytes second.1)
