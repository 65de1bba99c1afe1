-- Which texts are the words of a line `retry`, and what they name. A word is a return code, a number from 1 to 65535, or an
-- outcome, and words have one space (byte 32) between two. While they are read, `left` is what is unread of the text (`None`
-- at its end), `read` the words so far, and `rest` what is left after the next word.
use Rattle.gc_texts.proofs.Common.{◌≡◌, ◌<◌, ◌≤◌, inl, inr, ℕ, Bool, true, false, ◌==◌, is_some, List, [], ◌∷◌, ◌++◌, get_or, Option, Some, None, arith, refl, ap, subst, sym, ◌∙◌, append-nil, codes, if◌then◌else◌, eqb-true, le-leb, ltb-true, ltb-false, no_again, Cuts, Lacks, behind, judgements, judgement_word, IsReason, NamesRule, IsRetryRule, allows_word, count_with, again_with, count_with_words, again_with_words, SetsRetry, AreWords, first_word, Again, Retry, AreDigits, IsReadAs}
use Rattle.std.specs.Prelude.{nat_le}
use Rattle.gc_texts.specs.declared.retry.Reason.{Reason}
use Rattle.gc_texts.proofs.Cutting.{read_alike, holds_of_rest, lacks_by_test, digits_lack_spaces}
use Rattle.gc_texts.proofs.Judgements.{of_each, named_among, one_judgement, judgement_lacks_space}
use Rattle.gc_texts.proofs.Procedures.{one_number}
use Rattle.gc_texts.proofs.WordForms.{IsWordForm, one_word_list, AreLeft, ReadsWords, all_words_read, next_item_of, one_more_read}
use Rattle.gc_texts.specs.declared.retry.Reason.TheVariants as reason

-- the first byte of digits, or 0 where there is none, is at most 57, that of 9
first_digit_low : (word : List ℕ) → AreDigits word → get_or word 0 0 ≤ 57
first_digit_low [] are = omega arith
first_digit_low (a ∷ rest) are = are.0.1

-- the kinds of words: 0 a code, 2 a judgement, and the others the other outcomes
abbrev reason_kind : Reason → ℕ
reason_kind (reason.Code code) = 0
reason_kind reason.Unreadable = 1
reason_kind (reason.Judged judgement) = 2
reason_kind reason.Late = 3
reason_kind reason.Lost = 4
reason_kind reason.Skipped = 5

-- the kind of an outcome's word that is no judgement's, by its second byte: 110 is n, 97 a, 111 o, and that of any other is a k
abbrev kind_by_second_byte : ℕ → ℕ
kind_by_second_byte b = if b == 110 then 1 else if b == 97 then 3 else if b == 111 then 4 else 5

-- the kind of a word: that of a code has a first byte up to that of 9
abbrev word_kind : List ℕ → ℕ
word_kind word = if nat_le (get_or word 0 0) 57 then 0 else if is_some (named_among judgements word) then 2 else kind_by_second_byte (get_or word 1 0)

-- a word shows its kind
word_shows_kind : (word : List ℕ) (r : Reason) → IsReason word r → word_kind word ≡ reason_kind r
word_shows_kind word (reason.Code code) is = rw (le-leb (get_or word 0 0) 57 (first_digit_low word is.number.names.digits)) refl
word_shows_kind word reason.Unreadable is = ap word_kind is
word_shows_kind word (reason.Judged judgement) is = ap word_kind is ∙ eqb-true (word_kind (judgement_word judgement)) 2 (of_each (λ j. word_kind (judgement_word j) == 2) refl judgement)
word_shows_kind word reason.Late is = ap word_kind is
word_shows_kind word reason.Lost is = ap word_kind is
word_shows_kind word reason.Skipped is = ap word_kind is

-- where a word is `a` and is `b`, and both are of one kind, they are the same
same_reason : (word : List ℕ) (a b : Reason) → IsReason word a → IsReason word b → reason_kind a ≡ reason_kind b → a ≡ b
same_reason word (reason.Code m) (reason.Code n) x y h = ap reason.Code (one_number word m n 65535 x.number y.number)
same_reason word reason.Unreadable reason.Unreadable x y h = refl
same_reason word (reason.Judged j) (reason.Judged k) x y h = ap reason.Judged (one_judgement word j k x y)
same_reason word reason.Late reason.Late x y h = refl
same_reason word reason.Lost reason.Lost x y h = refl
same_reason word reason.Skipped reason.Skipped x y h = refl
same_reason word a b x y h = absurd (omega (arith, h))

-- a word is one code or outcome at most
one_reason : (word : List ℕ) (a b : Reason) → IsReason word a → IsReason word b → a ≡ b
one_reason word a b x y = same_reason word a b x y (sym (word_shows_kind word a x) ∙ word_shows_kind word b y)

-- a code or an outcome has no space
reason_lacks_space : (word : List ℕ) (r : Reason) → IsReason word r → Lacks 32 word
reason_lacks_space word (reason.Code code) is = digits_lack_spaces word is.number.names.digits
reason_lacks_space word reason.Unreadable is = subst (Lacks 32) (sym is) (lacks_by_test 32 (codes "unreadable") refl)
reason_lacks_space word (reason.Judged judgement) is = subst (Lacks 32) (sym is) (judgement_lacks_space judgement)
reason_lacks_space word reason.Late is = subst (Lacks 32) (sym is) (lacks_by_test 32 (codes "late") refl)
reason_lacks_space word reason.Lost is = subst (Lacks 32) (sym is) (lacks_by_test 32 (codes "lost") refl)
reason_lacks_space word reason.Skipped is = subst (Lacks 32) (sym is) (lacks_by_test 32 (codes "skipped") refl)

-- a word of a line `retry` has no space, and is one code or outcome at most
reason_form : IsWordForm IsReason
reason_form = record { lacks = reason_lacks_space; one = one_reason }

-- a text names one rule at most
one_named : (text : List ℕ) (a b : Again) → NamesRule text a → NamesRule text b → a ≡ b
one_named text a b x y = x.again_is ∙ ap (again_with_words no_again 0) (one_word_list IsReason reason_form x.reasons y.reasons text x.are y.are) ∙ sym y.again_is

-- two retries with equal times and equal rules are equal
same_retry : (a b : Retry) → a.times ≡ b.times → a.again ≡ b.again → a ≡ b
same_retry a b e f = ap (λ n. record { times = n; again = a.again }) e ∙ ap (λ x. record { times = b.times; again = x }) f

-- a text is one rule at most
one_rule : (text : List ℕ) (a b : Retry) → IsRetryRule text a → IsRetryRule text b → a ≡ b
one_rule text a b x y = same_retry a b (one_number (first_word text) a.times b.times 9 x.times_are y.times_are) (one_named (behind 32 text) a.again b.again x.again_is y.again_is)

-- `0` alone is no rule
zero_is_no_rule : (a : Retry) → IsRetryRule (codes "0") a → ⊥
zero_is_no_rule a is = let none : a.times ≡ 0 = is.times_are.names.value in omega (arith, none, is.some)

-- a line sets one retry at most
pub one_retrying : (line : List ℕ) (a b : Retry) → SetsRetry line a → SetsRetry line b → a ≡ b
one_retrying line a b (inl x) (inl y) = x.1 ∙ sym y.1
one_retrying line a b (inl x) (inr y) =
    absurd (zero_is_no_rule b (holds_of_rest (codes "retry ") (λ r. IsRetryRule r b) line (codes "0") x.0 y))
one_retrying line a b (inr x) (inl y) =
    absurd (zero_is_no_rule a (holds_of_rest (codes "retry ") (λ r. IsRetryRule r a) line (codes "0") y.0 x))
one_retrying line a b (inr x) (inr y) =
    one_rule y.rest a b (holds_of_rest (codes "retry ") (λ r. IsRetryRule r a) line y.rest y.line_is x) y.is

-- if a line is `retry ` and `rest`, but not `retry 0`, the rule that is read of `rest`, or `None`, is also read of the line
-- (`IsReadAs`)
pub retry_of_rest : (line rest : List ℕ) (r : Option Retry) → (line ≡ codes "retry 0" → ⊥) → line ≡ codes "retry " ++ rest
    → IsReadAs (IsRetryRule rest) r → IsReadAs (SetsRetry line) r
retry_of_rest line rest r other e = read_alike (IsRetryRule rest) (SetsRetry line) r (λ found is. inr (record { rest = rest; line_is = e; is = is })) rest_rules where
  -- `rest` is the rule that the line sets, because the line isn't `retry 0`
  rest_rules : (found : Retry) → SetsRetry line found → IsRetryRule rest found
  rest_rules found (inl alone) = absurd (other alone.0)
  rest_rules found (inr is) = holds_of_rest (codes "retry ") (λ t. IsRetryRule t found) line rest e is

-- How far the reading has come.

-- words of the text were read (`ReadsWords`) that make the rule `again`, with `count` codes among them, at most 16
pub record NamesSoFar (text : List ℕ) (left : Option (List ℕ)) (again : Again) (count : ℕ) : Type 0 where
  pub read : List Reason
  pub reads : ReadsWords IsReason text left read
  pub again_is : again ≡ again_with_words no_again 0 read
  pub count_is : count ≡ count_with_words 0 read
  pub few : count ≤ 16

-- the rule that words and one more make is the rule of the words, with that word added
rule_of_one_more : (again : Again) (count : ℕ) (read : List Reason) (r : Reason)
    → again_with_words again count (read ++ r ∷ []) ≡ again_with (again_with_words again count read) (count_with_words count read) r
rule_of_one_more again count [] r = refl
rule_of_one_more again count (x ∷ read) r = rule_of_one_more (again_with again count x) (count_with count x) read r

-- with one more word there are no fewer codes
count_grows_by_word : (count : ℕ) (r : Reason) → count ≤ count_with count r
count_grows_by_word count (reason.Code code) = omega arith
count_grows_by_word count reason.Unreadable = omega arith
count_grows_by_word count (reason.Judged judgement) = omega arith
count_grows_by_word count reason.Late = omega arith
count_grows_by_word count reason.Lost = omega arith
count_grows_by_word count reason.Skipped = omega arith

-- with more words there are no fewer codes
codes_grow : (count : ℕ) (later : List Reason) → count ≤ count_with_words count later
codes_grow count [] = omega arith
codes_grow count (r ∷ later) =
    let one : count ≤ count_with count r = count_grows_by_word count r in
    let all : count_with count r ≤ count_with_words (count_with count r) later = codes_grow (count_with count r) later in
    omega (arith, one, all)

-- the codes of words and later words are counted by counting those of the words first, and from there on those of the later words
codes_of_all : (count : ℕ) (read later : List Reason) → count_with_words count (read ++ later) ≡ count_with_words (count_with_words count read) later
codes_of_all count [] later = refl
codes_of_all count (x ∷ read) later = codes_of_all (count_with count x) read later

-- where there is no room for a word, there are more than 16 codes with it
no_room_exceeds_16 : (count : ℕ) (r : Reason) → allows_word count r ≡ false → 16 < count_with count r
no_room_exceeds_16 count (reason.Code code) e = let full : 16 ≤ count = ltb-false count 16 e in omega (arith, full)
no_room_exceeds_16 count reason.Unreadable e = cc
no_room_exceeds_16 count (reason.Judged judgement) e = cc
no_room_exceeds_16 count reason.Late e = cc
no_room_exceeds_16 count reason.Lost e = cc
no_room_exceeds_16 count reason.Skipped e = cc

-- where there is room for a word, there are at most 16 codes with it
room_keeps_to_16 : (count : ℕ) (r : Reason) → count ≤ 16 → allows_word count r ≡ true → count_with count r ≤ 16
room_keeps_to_16 count (reason.Code code) few e = let more : count < 16 = ltb-true count 16 e in omega (arith, more)
room_keeps_to_16 count reason.Unreadable few e = few
room_keeps_to_16 count (reason.Judged judgement) few e = few
room_keeps_to_16 count reason.Late few e = few
room_keeps_to_16 count reason.Lost few e = few
room_keeps_to_16 count reason.Skipped few e = few

-- the text `now` is left, and `word` is its next word
module _
    (text now word : List ℕ) (left rest : Option (List ℕ)) (old : Again) (count : ℕ) (f : NamesSoFar text left old count)
    (some : left ≡ Some now) (cut : Cuts 32 now word rest) where
  -- the words of the text are those that were read, the next one, and those of the rest
  next_reason : (all : List Reason) → AreWords IsReason text all
      → (r : Reason) × (others : List Reason) × (all ≡ f.read ++ r ∷ others) × IsReason word r × AreLeft IsReason rest others
  next_reason all are = next_item_of IsReason reason_form text now word left rest f.read f.reads some cut all are

  -- where the next word is neither a code nor an outcome, the text names no rule
  pub reason_fails : ((r : Reason) → IsReason word r → ⊥) → (found : Again) → NamesRule text found → ⊥
  reason_fails none found is =
      let next = next_reason is.reasons is.are in
      none next.0 next.3

  -- where the next word is a code or an outcome, and there is no room for it, the text names no rule: it has more than 16 codes
  pub reasons_too_many : (r : Reason) (room : Bool) → IsReason word r → room ≡ allows_word count r → room ≡ false
      → (found : Again) → NamesRule text found → ⊥
  reasons_too_many r room says tested none found is =
      let next = next_reason is.reasons is.are in
      let same : next.0 ≡ r = one_reason word next.0 r next.3 says in
      let all : count_with_words 0 is.reasons ≡ count_with_words (count_with count r) next.1 =
      ap (count_with_words 0) next.2 ∙ codes_of_all 0 f.read (next.0 ∷ next.1) ∙ ap (λ x. count_with_words (count_with (count_with_words 0 f.read) x) next.1) same
      ∙ ap (λ n. count_with_words (count_with n r) next.1) (sym f.count_is) in
      let more : count_with count r ≤ count_with_words (count_with count r) next.1 = codes_grow (count_with count r) next.1 in
      let much : 16 < count_with count r = no_room_exceeds_16 count r (sym tested ∙ none) in
      omega (arith, all, more, much, is.few)

  -- where the next word is a code or an outcome, and there is room for it, one more is read
  pub reason_reads : (r : Reason) (new : Again) (next : ℕ) (room : Bool)
      (is : IsReason word r) (more : new ≡ again_with old count r) (counted : next ≡ count_with count r)
      → room ≡ allows_word count r → room ≡ true → NamesSoFar text rest new next
  reason_reads r new next room is more counted tested has =
      record {
        read = f.read ++ r ∷ [];
        reads = one_more_read IsReason reason_form text now word left rest f.read f.reads some cut r is;
        again_is = more ∙ ap (λ a. again_with a count r) f.again_is ∙ ap (λ n. again_with (again_with_words no_again 0 f.read) n r) f.count_is ∙ sym (rule_of_one_more no_again 0 f.read r);
        count_is = counted ∙ ap (λ n. count_with n r) f.count_is ∙ sym (codes_of_all 0 f.read (r ∷ []));
        few = subst (λ n. n ≤ 16) (sym counted) (room_keeps_to_16 count r f.few (sym tested ∙ has));
      }

-- where nothing is left, the text names the rule that the words that were read make
pub all_reasons_read : (text : List ℕ) (left : Option (List ℕ)) (again : Again) (count : ℕ)
    → NamesSoFar text left again count → left ≡ None → NamesRule text again
all_reasons_read text left again count f e =
    record {
      reasons = f.read;
      are = subst (AreWords IsReason text) (append-nil f.read) (all_words_read IsReason text left f.read f.reads e);
      few = omega (arith, f.few, f.count_is);
      again_is = f.again_is;
    }
