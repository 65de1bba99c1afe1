-- What is written is the one line without leading zeros that has the grammar.
use Rattle.gc_lines.proofs.Common.{◌≡◌, ◌↔◌, ℕ, ◌<◌, List, [], ◌∷◌, ◌++◌, length, Ok, refl, sym, ap, ◌∙◌, subst, arith, inl, inr, decimal, length-decimal-le, decimal_nonempty, decimal_is_IsNumeral, decimal-digits_value, decimal_digit, first_decimal, cases_lt, IsSmallNumber, NoLeadingZero, id_text, RequestFields, IsRequest, IsWrittenRequest, request_signature, request_text, ReplyFields, IsReply, IsWrittenReply, EndsCode, params_text, reply_signature, reply_text, request_at, reply_at, IsRequestInRange, IsReplyInRange}
use Rattle.gc_lines.proofs.Digits.{digits_are_numerals}
use Rattle.gc_lines.proofs.Requests.{request_again}
use Rattle.gc_lines.proofs.Replies.{reply_again}

-- a number below 65536, as it is written, has a number's form
pub decimal_number : (n : ℕ) → n < 65536 → IsSmallNumber (decimal n) n
decimal_number n h =
    let numeral = decimal_is_IsNumeral n (omega arith) in
    record {
      some = decimal_nonempty n (omega arith);
      few = length-decimal-le 5 n (omega arith) (omega arith) (omega arith);
      digits = numeral.0.1;
      value = numeral.1;
      bound = h;
    }

-- a number below 65536, as it is written, has no leading zero
no_zero_first : (n : ℕ) → n < 65536 → NoLeadingZero (decimal n)
no_zero_first n h zero = elim (cases_lt 0 n) [
  | inl some ↦ absurd (omega (arith, first_decimal n some (omega arith)))
  | inr none ↦ ap length (decimal_digit n (omega arith))
]

-- a number's text without leading zeros is the one that is written
number_written : (text : List ℕ) (n : ℕ) → IsSmallNumber text n → NoLeadingZero text → text ≡ decimal n
number_written text n is zeros = sym (decimal-digits_value digits_are_numerals text is.digits is.some zeros (omega (arith, is.value, is.bound))) ∙ ap decimal is.value

-- what is written after a reply's return code is a reply's end with the same parameters, as `EndsCode` has it
params_end : (params : List ℕ) → EndsCode (params_text params) params
params_end [] = inl (refl, refl)
params_end (b ∷ bs) = inr refl

-- what is written after a reply's return code is empty exactly if there are no parameters
params_text_empty : (params : List ℕ) → (params_text params ≡ []) ↔ (params ≡ [])
params_text_empty [] = (λ e. refl, λ e. refl)
params_text_empty (b ∷ bs) = (λ e. (cc), λ e. (cc))

-- a reply's end that is empty exactly if it has no parameters is the one that is written
tail_written : (tail params : List ℕ) → EndsCode tail params → ((tail ≡ []) ↔ (params ≡ [])) → tail ≡ params_text params
tail_written tail params (inl e) comma = e.0 ∙ ap params_text (sym e.1)
tail_written tail [] (inr e) comma = comma.1 refl
tail_written tail (b ∷ bs) (inr e) comma = e

-- requests

-- the text of a request in range has the grammar of a request with its fields
abbrev request_has_grammar : (q : RequestFields) → IsRequestInRange q → IsRequest (request_text q) q
request_has_grammar q r = record { number = decimal q.rpc; is_number = decimal_number q.rpc r.rpc; is_id = r.id; whole = refl }

-- the text of a request in range is a written line with its fields
request_is_written : (q : RequestFields) → IsRequestInRange q → IsWrittenRequest (request_text q) q
request_is_written q r = record { is = request_has_grammar q r; number = no_zero_first q.rpc r.rpc }

-- a line is a written one with the fields of a request exactly if the request is in range and the line is its text
pub request_written : (line : List ℕ) (q : RequestFields) → IsWrittenRequest line q ↔ (IsRequestInRange q × (line ≡ request_text q))
request_written line q = (
  λ w. (
    record { rpc = w.is.is_number.bound; id = w.is.is_id },
    w.is.whole ∙ ap (λ t. request_signature ++ (t ++ (id_text q.id ++ 58 ∷ q.params))) (number_written w.is.number q.rpc w.is.is_number w.number),
  ),
  λ r. subst (λ (l : List ℕ). IsWrittenRequest l q) (sym r.1) (request_is_written q r.0),
)

-- `request_at` gives the fields of a request in range for its text
pub request_back : (q : RequestFields) → IsRequestInRange q → request_at (request_text q) ≡ Ok q
request_back q r = request_again (request_text q) q (request_has_grammar q r)

-- replies

-- the text of a reply in range has the grammar of a reply with its fields
abbrev reply_has_grammar : (r : ReplyFields) → IsReplyInRange r → IsReply (reply_text r) r
reply_has_grammar r in_range = record {
  number = decimal r.rc_com;
  code = decimal r.rc;
  tail = params_text r.params;
  is_number = decimal_number r.rc_com in_range.rc_com;
  is_id = in_range.id;
  is_code = decimal_number r.rc in_range.rc;
  is_tail = params_end r.params;
  whole = refl;
}

-- the text of a reply in range is a written line with its fields
reply_is_written : (r : ReplyFields) → IsReplyInRange r → IsWrittenReply (reply_text r) r
reply_is_written r in_range = record { is = reply_has_grammar r in_range; number = no_zero_first r.rc_com in_range.rc_com; code = no_zero_first r.rc in_range.rc; comma = params_text_empty r.params }

-- a line is a written one with the fields of a reply exactly if the reply is in range and the line is its text
pub reply_written : (line : List ℕ) (r : ReplyFields) → IsWrittenReply line r ↔ (IsReplyInRange r × (line ≡ reply_text r))
reply_written line r = (
  λ w. (
    record { rc_com = w.is.is_number.bound; id = w.is.is_id; rc = w.is.is_code.bound },
    w.is.whole
        ∙ ap (λ t. reply_signature ++ (t ++ (id_text r.id ++ 58 ∷ (w.is.code ++ w.is.tail)))) (number_written w.is.number r.rc_com w.is.is_number w.number)
        ∙ ap (λ t. reply_signature ++ (decimal r.rc_com ++ (id_text r.id ++ 58 ∷ (t ++ w.is.tail)))) (number_written w.is.code r.rc w.is.is_code w.code)
        ∙ ap (λ t. reply_signature ++ (decimal r.rc_com ++ (id_text r.id ++ 58 ∷ (decimal r.rc ++ t)))) (tail_written w.is.tail r.params w.is.is_tail w.comma),
  ),
  λ e. subst (λ (l : List ℕ). IsWrittenReply l r) (sym e.1) (reply_is_written r e.0),
)

-- `reply_at` gives the fields of a reply in range for its text
pub reply_back : (r : ReplyFields) → IsReplyInRange r → reply_at (reply_text r) ≡ Ok r
reply_back r in_range = reply_again (reply_text r) r (reply_has_grammar r in_range)
