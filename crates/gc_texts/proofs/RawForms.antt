-- Lines that ask for a procedure that isn't in the table (`IsRawWish`): their words, and that no command's line is one of them.
use Rattle.gc_texts.proofs.Common.{◌≡◌, ◌<◌, ◌≤◌, ◌==◌, ℕ, List, [], ◌∷◌, ◌++◌, length, get_or, Option, Some, None, Bool, true, false, cond, arith, refl, ap, sym, ◌∙◌, codes, append-nil, AreDigits, Raw, raw_bytes, RawCall, one_asked, IsCommand, before, params_text_of, IsRawWish, first_word, second_word, third_word, Command}
use Rattle.gc_texts.proofs.Cutting.{digits_lack_spaces}
use Rattle.gc_texts.proofs.Fronts.{before_mark, before_none, behind_mark}
use Rattle.gc_texts.proofs.Procedures.{one_number}

-- where a text is digits and then a space and parameters, or digits alone, what is before its first space is the digits
before_params : (digits : List ℕ) (params : Option (List ℕ)) → AreDigits digits → before 32 (digits ++ params_text_of params) ≡ digits
before_params digits None are = ap (before 32) (append-nil digits) ∙ before_none 32 digits (digits_lack_spaces digits are)
before_params digits (Some params) are = before_mark 32 digits params (digits_lack_spaces digits are)

-- the second word of a command's line is its procedure's number
pub number_word : (line : List ℕ) (command : Command) → (is : IsCommand line command) → second_word line ≡ is.procedure_is.rpc_text
number_word line command is =
    ap second_word is.line_is
    ∙ ap (before 32) (behind_mark 32 is.target_text is.procedure (digits_lack_spaces is.target_text is.target_is.names.digits) ∙ is.procedure_is.text_is)
    ∙ before_params is.procedure_is.rpc_text is.procedure_is.params is.procedure_is.number.names.digits

-- the word `raw` is no digits
pub raw_is_no_digits : (word : List ℕ) → AreDigits word → word ≡ codes "raw" → ⊥
raw_is_no_digits [] are e = let first : ◌≡◌ {A = ℕ} 0 114 = ap (λ bs. get_or bs 0 0) e in omega (arith, first)
raw_is_no_digits (d ∷ ds) are e = let first : d ≡ 114 = ap (λ bs. get_or bs 0 0) e in omega (arith, first, are.0.1)

-- nor is the word `expect`
pub expect_is_no_digits : (word : List ℕ) → AreDigits word → word ≡ codes "expect" → ⊥
expect_is_no_digits [] are e = let first : ◌≡◌ {A = ℕ} 0 101 = ap (λ bs. get_or bs 0 0) e in omega (arith, first)
expect_is_no_digits (d ∷ ds) are e = let first : d ≡ 101 = ap (λ bs. get_or bs 0 0) e in omega (arith, first, are.0.1)

-- the second word of a command's line isn't `expect`
pub command_is_no_expect : (line : List ℕ) (command : Command) → IsCommand line command → second_word line ≡ codes "expect" → ⊥
command_is_no_expect line command x e = expect_is_no_digits x.procedure_is.rpc_text x.procedure_is.number.names.digits (sym (number_word line command x) ∙ e)

-- no line both has the form of a command and asks for a procedure that isn't in the table
pub command_is_no_raw_wish : (line : List ℕ) (command : Command) (target : ℕ) (raw : RawCall) → IsCommand line command → IsRawWish line target raw → ⊥
command_is_no_raw_wish line command target raw x y = raw_is_no_digits x.procedure_is.rpc_text x.procedure_is.number.names.digits (sym (number_word line command x) ∙ y.word)

-- a line asks at most one target for at most one request of a procedure that isn't in the table
pub one_raw : (line : List ℕ) (m n : ℕ) (r s : RawCall) → IsRawWish line m r → IsRawWish line n s → (m ≡ n) × (Raw r ≡ Raw s)
one_raw line m n r s x y = (
  one_number (first_word line) m n 4294967295 x.target_is y.target_is,
  one_asked s.rpc (raw_bytes s.params) (Raw r) (Raw s) (one_number (third_word line) r.rpc s.rpc 65535 x.number y.number, x.params_are ∙ sym y.params_are) (refl, refl),
)

-- where what is before the first space of a line is digits, at least one, the line's first byte is at most 57, that of 9
pub digits_begin_low : (line : List ℕ) → AreDigits (first_word line) → 0 < length (first_word line) → get_or line 0 0 ≤ 57
digits_begin_low [] digits some = omega arith
digits_begin_low (b ∷ bs) digits some = first_byte_low (b == 32) (before 32 bs) digits some where
  -- the lemma above for the line `b ∷ bs`, by whether its first byte is a space (`z`)
  first_byte_low : (z : Bool) (rest : List ℕ) → AreDigits (cond z [] (b ∷ rest)) → 0 < length (cond z [] (b ∷ rest)) → b ≤ 57
  first_byte_low true rest digits some = absurd (omega (arith, some))
  first_byte_low false rest digits some = digits.0.1
