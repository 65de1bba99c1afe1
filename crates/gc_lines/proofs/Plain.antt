-- Bytes without CR and LF, and the line that they make.
use Rattle.gc_lines.proofs.Common.{◌≡◌, ℕ, ◌+◌, ◌-◌, ◌<◌, ◌≤◌, List, [], ◌∷◌, ◌++◌, length, take, get_or, Option, Some, None, refl, sym, ap, ◌∙◌, arith, length-append, append_assoc, map, AllByRecursion, decimal, AllDigits, decimal_is_IsNumeral, digit_from_value, take_at, Line, IsPlainByte, IsPlain, with_end, HasNoLineFeed, frame_of, frames, rest_of, id_text, RequestFields, request_text, ReplyFields, reply_text, params_text, IsRequestInRange, IsReplyInRange, PlainIsOneLine}
use Rattle.std.proofs.lemmas.List.Elements.{recursion_from_All, All-from_recursion, All-append}
use Rattle.gc_lines.proofs.Cutting.{front_joins_piece}
use Rattle.gc_lines.proofs.Keeping.{line_frame, last-append}

-- plain bytes xs and then plain bytes ys are plain together
pub plain_append : (xs ys : List ℕ) → IsPlain xs → IsPlain ys → IsPlain (xs ++ ys)
plain_append xs ys = All-append IsPlainByte xs ys

-- what the fields are made of is plain

-- digits are plain
digits_plain : (ds : List ℕ) → AllDigits 10 ds → AllByRecursion IsPlainByte ds
digits_plain [] h = tt
digits_plain (d ∷ ds) h = let r = digit_from_value d h.0 in ((λ e. absurd (omega arith), λ e. absurd (omega arith)), digits_plain ds h.1)

-- a written number below 65536 is plain
pub decimal_plain : (n : ℕ) → n < 65536 → IsPlain (decimal n)
decimal_plain n h = All-from_recursion IsPlainByte (decimal n) (digits_plain (decimal n) (decimal_is_IsNumeral n (omega arith)).0.1)

-- a byte above 13 is plain
plain_above_13 : (b : ℕ) → 13 < b → IsPlainByte b
plain_above_13 b h = (λ e. absurd (omega arith), λ e. absurd (omega arith))

-- a written id is plain
pub id_plain : (id : Option ℕ) → IsPlain (id_text id)
id_plain None = All-from_recursion IsPlainByte [] tt
id_plain (Some i) = All-from_recursion IsPlainByte (44 ∷ (48 + i) ∷ []) (plain_above_13 44 (omega arith), (plain_above_13 (48 + i) (omega arith), tt))

-- plain bytes after a byte above 13 are plain with it
pub plain_cons : (b : ℕ) (xs : List ℕ) → 13 < b → IsPlain xs → IsPlain (b ∷ xs)
plain_cons b xs above h = plain_append (b ∷ []) xs (All-from_recursion IsPlainByte (b ∷ []) (plain_above_13 b above, tt)) h

-- what is written of a reply's parameters is plain if they are: a comma and then the parameters, or nothing if there are none
params_plain : (params : List ℕ) → IsPlain params → IsPlain (params_text params)
params_plain [] h = h
params_plain (b ∷ bs) h = plain_cons 44 (b ∷ bs) (omega arith) h

-- a signature is plain: `%R1`, a byte `c` above 13 (Q for a request, P for a reply), and a comma
pub signature_plain : (c : ℕ) → 13 < c → IsPlain (37 ∷ 82 ∷ 49 ∷ c ∷ 44 ∷ [])
signature_plain c h = All-from_recursion IsPlainByte (37 ∷ 82 ∷ 49 ∷ c ∷ 44 ∷ []) (
  plain_above_13 37 (omega arith),
  (plain_above_13 82 (omega arith), (plain_above_13 49 (omega arith), (plain_above_13 c h, (plain_above_13 44 (omega arith), tt)))),
)

-- the text of a request in range with plain parameters is plain
pub request_plain : (q : RequestFields) → IsRequestInRange q → IsPlain q.params → IsPlain (request_text q)
request_plain q r h = plain_append (37 ∷ 82 ∷ 49 ∷ 81 ∷ 44 ∷ []) _ (signature_plain 81 (omega arith))
    (plain_append (decimal q.rpc) _ (decimal_plain q.rpc r.rpc) (plain_append (id_text q.id) _ (id_plain q.id) (plain_cons 58 q.params (omega arith) h)))

-- the text of a reply in range with plain parameters is plain
pub reply_plain : (r : ReplyFields) → IsReplyInRange r → IsPlain r.params → IsPlain (reply_text r)
reply_plain r in_range h = plain_append (37 ∷ 82 ∷ 49 ∷ 80 ∷ 44 ∷ []) _ (signature_plain 80 (omega arith))
    (plain_append (decimal r.rc_com) _ (decimal_plain r.rc_com in_range.rc_com) (plain_append (id_text r.id) _ (id_plain r.id)
    (plain_cons 58 (decimal r.rc ++ params_text r.params) (omega arith) (plain_append (decimal r.rc) _ (decimal_plain r.rc in_range.rc) (params_plain r.params h)))))

-- plain bytes and CR LF are one line

-- plain bytes and a CR have no line feed
plain_has_no_feed : (bytes : List ℕ) → AllByRecursion IsPlainByte bytes → HasNoLineFeed (bytes ++ 13 ∷ [])
plain_has_no_feed [] h = ((λ e. absurd (omega arith)), tt)
plain_has_no_feed (b ∷ bs) h = (h.0.0, plain_has_no_feed bs h.1)

-- the frame of at most 512 bytes, whichever they are, and a CR after them is the line of these bytes
pub frame_is_line : (bytes : List ℕ) → length bytes ≤ 512 → Line (record { items = bytes }) ≡ frame_of (bytes ++ 13 ∷ [])
frame_is_line bytes fits =
    let long : length (bytes ++ 13 ∷ []) ≡ length bytes + 1 = length-append bytes (13 ∷ []) in
    let one : length (bytes ++ 13 ∷ []) - 1 ≡ length bytes = omega arith in
    let last : get_or (bytes ++ 13 ∷ []) (length (bytes ++ 13 ∷ []) - 1) 0 ≡ 13 = last-append bytes (13 ∷ []) (omega arith) in
    let items : bytes ≡ take (length (bytes ++ 13 ∷ []) - 1) (bytes ++ 13 ∷ []) = sym (ap (λ n. take n (bytes ++ 13 ∷ [])) one ∙ take_at bytes (13 ∷ []) (length bytes) refl) in
    line_frame (bytes ++ 13 ∷ []) (record { items = bytes }) (omega arith) last (omega arith) items

-- the law: at most 512 plain bytes and then CR LF are one line, and leave no rest
pub plain_line : PlainIsOneLine
plain_line bytes h fits =
    let cut = front_joins_piece [] (bytes ++ 13 ∷ []) (10 ∷ []) (plain_has_no_feed bytes (recursion_from_All IsPlainByte bytes h)) in
    let whole : with_end bytes ≡ (bytes ++ 13 ∷ []) ++ 10 ∷ [] = sym (append_assoc bytes (13 ∷ []) (10 ∷ [])) in
    (ap frames whole ∙ ap (λ ps. map frame_of ps) cut.0 ∙ ap (λ f. f ∷ []) (sym (frame_is_line bytes fits)), ap rest_of whole ∙ cut.1)
