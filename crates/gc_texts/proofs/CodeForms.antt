-- Which texts are lists of return codes, and of which. A listed code is a word, a number from 1 to 65535, and codes have one
-- space (byte 32) between two. A line `accept` or `busy` with no code after it sets none; one with a list after it sets
-- those. While a list is read, `left` is what is unread of the text (`None` at its end), `read` the codes so far, and
-- `count` how many they are; `rest` is what is left after the next word.
use Rattle.gc_texts.proofs.Common.{◌≡◌, ◌⊎◌, ◌<◌, ◌≤◌, ◌+◌, ◌-◌, inl, inr, ℕ, suc, replicate, slice_set, List, [], ◌∷◌, ◌++◌, length, get_or, Option, Some, None, arith, ap, subst, sym, ◌∙◌, append_assoc, append-nil, codes, set-append_seam, length_push, IsCodeList, IsCode, no_codes, padded_codes, Cuts, Lacks, IsWordAnd, SetsAccepted, SetsBusy, Codes, IsReadAs, AreWords}
use Rattle.gc_texts.proofs.Cutting.{read_alike, holds_of_rest, digits_lack_spaces}
use Rattle.gc_texts.proofs.Procedures.{one_number}
use Rattle.gc_texts.proofs.WordForms.{IsWordForm, one_word_list, AreLeft, ReadsWords, all_words_read, next_item_of, one_more_read}

-- a word is one code at most
one_code : (word : List ℕ) (a b : ℕ) → IsCode word a → IsCode word b → a ≡ b
one_code word a b x y = one_number word a b 65535 x.number y.number

-- the word of a code has no space
code_lacks_space : (word : List ℕ) (code : ℕ) → IsCode word code → Lacks 32 word
code_lacks_space word code is = digits_lack_spaces word is.number.names.digits

-- a code's word has no space, and is one code at most
code_form : IsWordForm IsCode
code_form = record { lacks = code_lacks_space; one = one_code }

-- a text fills the 16 places for codes in one way at most
one_code_list : (text : List ℕ) (a b : Codes) → IsCodeList text a → IsCodeList text b → a ≡ b
one_code_list text a b x y =
    ap (λ cs. record { codes = cs }) (x.filled_are ∙ ap padded_codes (one_word_list IsCode code_form x.listed y.listed text x.are y.are) ∙ sym y.filled_are)

-- a line that sets codes has a word alone (`alone`), which sets none, or that word and a space (`spaced`) and a list of the codes. No line
-- has both
module _ (alone spaced : List ℕ) (differ : (rest : List ℕ) → alone ≡ spaced ++ rest → ⊥) where
  -- a line sets these codes
  abbrev Sets : List ℕ → Codes → Type 0
  Sets line cs = ((line ≡ alone) × (cs ≡ no_codes)) ⊎ IsWordAnd spaced (λ rest. IsCodeList rest cs) line

  -- a line sets codes in one way at most
  one_setting : (line : List ℕ) (a b : Codes) → Sets line a → Sets line b → a ≡ b
  one_setting line a b (inl x) (inl y) = x.1 ∙ sym y.1
  one_setting line a b (inl x) (inr y) = absurd (differ y.rest (sym x.0 ∙ y.line_is))
  one_setting line a b (inr x) (inl y) = absurd (differ x.rest (sym y.0 ∙ x.line_is))
  one_setting line a b (inr x) (inr y) = one_code_list y.rest a b (holds_of_rest spaced (λ r. IsCodeList r a) line y.rest y.line_is x) y.is

  -- if a line is `spaced` and `rest`, but not `alone`, the codes that are read of `rest`, or `None`, are also read of the line (`IsReadAs`)
  setting_of_rest : (line rest : List ℕ) (r : Option Codes) → (line ≡ alone → ⊥) → line ≡ spaced ++ rest → IsReadAs (IsCodeList rest) r → IsReadAs (Sets line) r
  setting_of_rest line rest r other e = read_alike (IsCodeList rest) (Sets line) r (λ found are. inr (record { rest = rest; line_is = e; is = are })) rest_lists where
    -- `rest` lists the codes that the line sets, because the line isn't `alone`
    rest_lists : (found : Codes) → Sets line found → IsCodeList rest found
    rest_lists found (inl none) = absurd (other none.0)
    rest_lists found (inr is) = holds_of_rest spaced (λ t. IsCodeList t found) line rest e is

-- `accept` isn't `accept ` with a text after it
accept_has_no_rest : (rest : List ℕ) → codes "accept" ≡ codes "accept " ++ rest → ⊥
accept_has_no_rest rest e = let seventh : ◌≡◌ {A = ℕ} 0 32 = ap (λ bs. get_or bs 6 0) e in omega (arith, seventh)

-- `busy` isn't `busy ` with a text after it
busy_has_no_rest : (rest : List ℕ) → codes "busy" ≡ codes "busy " ++ rest → ⊥
busy_has_no_rest rest e = let fifth : ◌≡◌ {A = ℕ} 0 32 = ap (λ bs. get_or bs 4 0) e in omega (arith, fifth)

-- a line sets the accepted codes in one way at most
pub one_accepting : (line : List ℕ) (a b : Codes) → SetsAccepted line a → SetsAccepted line b → a ≡ b
one_accepting = one_setting (codes "accept") (codes "accept ") accept_has_no_rest

-- a line sets the codes that say busy in one way at most
pub one_busy : (line : List ℕ) (a b : Codes) → SetsBusy line a → SetsBusy line b → a ≡ b
one_busy = one_setting (codes "busy") (codes "busy ") busy_has_no_rest

-- if a line is `accept ` and `rest`, but not `accept` alone, the codes that are read of `rest`, or `None`, are also read of the line
pub codes_of_rest : (line rest : List ℕ) (r : Option Codes) → (line ≡ codes "accept" → ⊥) → line ≡ codes "accept " ++ rest
    → IsReadAs (IsCodeList rest) r → IsReadAs (SetsAccepted line) r
codes_of_rest = setting_of_rest (codes "accept") (codes "accept ") accept_has_no_rest

-- if a line is `busy ` and `rest`, but not `busy` alone, the codes that are read of `rest`, or `None`, are also read of the line
pub busy_of_rest : (line rest : List ℕ) (r : Option Codes) → (line ≡ codes "busy" → ⊥) → line ≡ codes "busy " ++ rest
    → IsReadAs (IsCodeList rest) r → IsReadAs (SetsBusy line) r
busy_of_rest = setting_of_rest (codes "busy") (codes "busy ") busy_has_no_rest

-- How far the reading has come.

-- the codes `read` were read from the text (`ReadsWords`), at most 16
pub record ReadsCodes (text : List ℕ) (left : Option (List ℕ)) (read : List ℕ) : Type 0 where
  pub words : ReadsWords IsCode text left read
  pub few : length read ≤ 16

-- `count` codes of the text were read (`ReadsCodes`), and are in the first places of `codes`, with 0 in the others
abbrev pub CodesSoFar : (text : List ℕ) → (left : Option (List ℕ)) → (codes : Codes) → (count : ℕ) → Type 0
CodesSoFar text left codes count = (read : List ℕ) × ReadsCodes text left read × (codes.codes ≡ padded_codes read) × (length read ≡ count)

-- if `old` has the codes `listed`, fewer than 16, in its first `count` places and 0 in the others, `old` with `code` in the next
-- place (`new`) has the codes `listed` and then `code`, and 0 in the others
fills_one_more : (old new listed : List ℕ) (count code : ℕ)
    → count < 16 → new ≡ slice_set old count code → length listed ≡ count → old ≡ padded_codes listed
    → new ≡ padded_codes (listed ++ code ∷ [])
fills_one_more old new listed count code room set n is =
    let some : 16 - length listed ≡ suc (15 - length listed) = omega (arith, n, room) in
    let less : 16 - length (listed ++ code ∷ []) ≡ 15 - length listed = omega (arith, length_push listed code) in
    set ∙ ap (λ l. slice_set l count code) (is ∙ ap (λ k. listed ++ replicate k 0) some) ∙ ap (λ k. slice_set (listed ++ 0 ∷ replicate (15 - length listed) 0) k code) (sym n)
    ∙ set-append_seam listed 0 (replicate (15 - length listed) 0) code ∙ sym (append_assoc listed (code ∷ []) (replicate (15 - length listed) 0))
    ∙ ap (λ k. (listed ++ code ∷ []) ++ replicate k 0) (sym less)

-- the text `now` is left, and `word` is its next word
module _
    (text now word : List ℕ) (left rest : Option (List ℕ)) (old : Codes) (count : ℕ) (f : CodesSoFar text left old count)
    (some : left ≡ Some now) (cut : Cuts 32 now word rest) where
  -- the codes of the text are those that were read, the one of the next word, and those of the rest
  next_code : (all : List ℕ) → AreWords IsCode text all
      → (code : ℕ) × (others : List ℕ) × (all ≡ f.0 ++ code ∷ others) × IsCode word code × AreLeft IsCode rest others
  next_code all are = next_item_of IsCode code_form text now word left rest f.0 f.1.words some cut all are

  -- where the next word is no code, the text is no list of codes
  pub code_fails : ((code : ℕ) → IsCode word code → ⊥) → (found : Codes) → IsCodeList text found → ⊥
  code_fails none found is = let next = next_code is.listed is.are in none next.0 next.3

  -- where the next word is a code, a place is free, and the code is put there, one more code is read
  pub code_reads : (code : ℕ) (new : Codes)
      → IsCode word code → count < 16 → new.codes ≡ slice_set old.codes count code → CodesSoFar text rest new (count + 1)
  code_reads code new is room set =
      let read = f.0 in (
        read ++ code ∷ [],
        record {
          words = one_more_read IsCode code_form text now word left rest read f.1.words some cut code is;
          few = omega (arith, room, f.3, length_push read code);
        },
        fills_one_more old.codes new.codes read count code room set f.3 f.2,
        length_push read code ∙ ap (λ n. n + 1) f.3,
      )

-- where nothing is left, the text is the list of the codes that were read
pub all_codes_read : (text : List ℕ) (left : Option (List ℕ)) (codes : Codes) (count : ℕ)
    → CodesSoFar text left codes count → left ≡ None → IsCodeList text codes
all_codes_read text left codes count (read, r, is, n) e =
    record { listed = read; are = subst (AreWords IsCode text) (append-nil read) (all_words_read IsCode text left read r.words e); few = r.few; filled_are = is }
