-- What is left of a request that was cut is no request: each request begins with `%` (37, called the sign here), and all of its
-- other bytes before the CR LF at its end are above 37.
use Rattle.gc_theorems.proofs.Common.{◌≡◌, ◌≢◌, ℕ, zero, suc, ◌-◌, ◌/◌, ◌%◌, ◌^◌, ◌<◌, Bool, true, false, ◌&&◌, ltb, eqb, ℤ, pos, negsuc, unsigned_abs, List, [], ◌∷◌, ◌++◌, length, drop, map, Option, Some, None, cond, refl, sym, ◌∙◌, ap, subst, arith, lit<, append_assoc, slice_index, decimal, AllByRecursion, ne_eqb, is_line_feed, ends_in_return, frame_of, pieces_behind, line_in, lines, id_text, IsNoRequest, frames_behind, boolean_text, byte_text, AreDigits, IsValue, text, AreValues, signed_text, minus_text, whole_text, places_text, every_drop, every_take, every_weaker as all_on, hex_digit_above_comma, call_fields, IsFitting, behind_commas, params_of, request_line, Call, HasNoRequest, request_bytes, CutRequestsAreWholeOrNothing, all_append, and-false, take-append-le, Lacks}
use Rattle.std.proofs.Common.{take}
use Rattle.std.specs.Str.Parse.{AllDigits}
use Rattle.std.proofs.lemmas.Fmt.{decimal_is_IsNumeral}
use Rattle.std.proofs.lemmas.List.Elements.{All-from_recursion}
use Rattle.std.proofs.lemmas.Str.Parse.{digit_at}
use Rattle.hex.specs.Hex.{lower_digits}
use Rattle.gc_lines.specs.declared.frame.Frame.{Frame}
use Rattle.gc_lines.specs.declared.frame.Frame.TheVariants.{Line, Cleared, Overlong, More}
use Rattle.gc_values.specs.Prelude.{written}
use Rattle.gc_values.specs.declared.value.Value.{Value}
use Rattle.gc_values.proofs.WrittenSpells.{writes_whole, is_fraction_text}
use Rattle.gc_catalogue.proofs.Joining.{params_of-cons}
use Rattle.gc_catalogue.proofs.Table.{IsNoText, no_text, number_fits}
use Rattle.gc_instrument.proofs.HeardFrames.{lines_of}
use Rattle.std.proofs.Math.Seq.{take-append-add}
use Rattle.gc_values.specs.declared.value.Value.TheVariants as value

-- Bytes above the sign that begins a request.

-- each of these bytes is above 37, the sign with which each request begins
abbrev pub AreAbove : List ℕ → Type 0
AreAbove bytes = AllByRecursion (λ b. 37 < b) bytes

-- bytes that are digits, by `AreDigits`, are above the sign with which each request begins
above_digits : (ds : List ℕ) → AreDigits ds → AreAbove ds
above_digits [] h = tt
above_digits (d ∷ ds) h = ((let low = h.0.0 in omega (arith, low)), above_digits ds h.1)

-- bytes that are digits, by `AllDigits`, are above the sign with which each request begins
pub above_decimal_digits : (ds : List ℕ) → AllDigits 10 ds → AreAbove ds
above_decimal_digits [] h = tt
above_decimal_digits (c ∷ cs) h = (omega (arith, digit_at (c ∷ cs) 0 h (omega arith)), above_decimal_digits cs h.1)

-- a minus, if there is one, is above `%`, the sign with which each request begins
above_minus : (z : ℤ) → AreAbove (minus_text z)
above_minus (pos n) = tt
above_minus (negsuc n) = (lit< tt, tt)

-- the text of a natural number is above the sign
above_whole : (n : ℕ) → AreAbove (whole_text n)
above_whole n = above_digits (whole_text n) (writes_whole n).digits

-- the text of a whole number, with its minus, is above `%`
above_signed : (z : ℤ) → AreAbove (signed_text z)
above_signed z = all_append (λ b. 37 < b) (minus_text z) (whole_text (unsigned_abs z)) (above_minus z) (above_whole (unsigned_abs z))

-- the text of a decimal, with its minus, is above `%`
above_written : (m : ℤ) (s : ℕ) → AreAbove (written m s)
above_written m s =
    let n = unsigned_abs m in
    all_append (λ b. 37 < b) (minus_text m) (whole_text (n / 10 ^ s) ++ (46 ∷ places_text s (n % 10 ^ s))) (above_minus m)
    (all_append (λ b. 37 < b) (whole_text (n / 10 ^ s)) (46 ∷ places_text s (n % 10 ^ s)) (above_whole (n / 10 ^ s)) (lit< tt, above_digits (places_text s (n % 10 ^ s)) (is_fraction_text n s).digits))

-- a hexadecimal digit is above the sign
above_digit : (d : ℕ) → d < 16 → 37 < slice_index lower_digits d
above_digit d h = let above = hex_digit_above_comma d h in omega (arith, above)

-- the text of a byte is above the sign
above_byte : (n : ℕ) → n < 256 → AreAbove (byte_text n)
above_byte n h = (lit< tt, (above_digit (n / 16) (omega arith), (above_digit (n % 16) (omega arith), (lit< tt, tt))))

-- the text of a truth value is above the sign
above_boolean : (b : Bool) → AreAbove (boolean_text b)
above_boolean false = (lit< tt, tt)
above_boolean true = (lit< tt, tt)

-- the text of a value that isn't a text is above the sign
above_value : (v : Value) → IsValue v → IsNoText v → AreAbove (text v)
above_value (value.Double d) h g = above_written d.digits d.scale
above_value (value.Long z) h g = above_signed z
above_value (value.Short z) h g = above_signed z
above_value (value.Byte n) h g = above_byte n h
above_value (value.Bool b) h g = above_boolean b
above_value (value.Text bytes) h g = absurd g

-- the texts of values after commas are above the sign, if none of them is a text
above_behind : (vs : List Value) → AreValues vs → AllByRecursion IsNoText vs → AreAbove (behind_commas vs)
above_behind [] h g = tt
above_behind (v ∷ vs) h g = all_append (λ b. 37 < b) (44 ∷ text v) (behind_commas vs) (lit< tt, above_value v h.0 g.0) (above_behind vs h.1 g.1)

-- the texts of parameters are above the sign, if none of them is a text
above_params : (vs : List Value) → AreValues vs → AllByRecursion IsNoText vs → AreAbove (params_of vs)
above_params [] h g = tt
above_params (v ∷ vs) h g = rw (params_of-cons v vs) (all_append (λ b. 37 < b) (text v) (behind_commas vs) (above_value v h.0 g.0) (above_behind vs h.1 g.1))

-- the text of an id is above the sign with which each request begins
pub above_id : (id : Option ℕ) → AreAbove (id_text id)
above_id None = tt
above_id (Some i) = (lit< tt, (omega arith, tt))

-- the bytes of a request after the first, `%`, without CR LF: `R1Q,` (82 49 81 44), the number, the id, a colon (58), and the
-- parameters
abbrev pub request_body : ℕ → Call → List ℕ
request_body id call = 82 ∷ 49 ∷ 81 ∷ 44 ∷ (decimal (call_fields call).number ++ (id_text (Some id) ++ 58 ∷ params_of (call_fields call).values))

-- all bytes of `request_body` are above the sign with which each request begins
pub above_body : (id : ℕ) (call : Call) → IsFitting call → AreAbove (request_body id call)
above_body id call h =
    let n = (call_fields call).number in (
      lit< tt,
      (
        lit< tt,
        (
          lit< tt,
          (
            lit< tt,
            all_append (λ b. 37 < b) (decimal n) (id_text (Some id) ++ 58 ∷ params_of (call_fields call).values)
                (above_decimal_digits (decimal n) (decimal_is_IsNumeral n (let small = number_fits call in omega (arith, small))).0.1)
                (all_append (λ b. 37 < b) (id_text (Some id)) (58 ∷ params_of (call_fields call).values) (above_id (Some id)) (lit< tt, above_params (call_fields call).values h (no_text call))),
          ),
        ),
      ),
    )

-- Lines of a stream.

-- a frame's line is the frame's bytes before the CR
frame_line : (bytes line : List ℕ) → line_in (frame_of bytes) ≡ Some line → line ≡ take (length bytes - 1) bytes
frame_line bytes line e = chosen (ends_in_return bytes) (ltb 512 (length bytes - 1)) e where
  -- the lemma above, by whether the bytes end in a CR (`ends`), and are too many (`long`)
  chosen : (ends long : Bool) → line_in (cond ends (cond long Overlong (Line (record { items = take (length bytes - 1) bytes }))) Cleared) ≡ Some line → line ≡ take (length bytes - 1) bytes
  chosen false long e = let never : ⊥ = cc in absurd never
  chosen true true e = let never : ⊥ = cc in absurd never
  chosen true false e = cc

-- where P holds of a frame's line, if there is one, and of each line of the frames after it, P holds of each line of all of them
lines_of_framed : (P : List ℕ → Type 0) (f : Frame) (fs : List Frame) → ((line : List ℕ) → line_in f ≡ Some line → P line) → AllByRecursion P (lines_of fs) → AllByRecursion P (lines_of (f ∷ fs))
lines_of_framed P (Line line) fs h g = (h line.items refl, g)
lines_of_framed P Cleared fs h g = g
lines_of_framed P Overlong fs h g = g
lines_of_framed P More fs h g = g

-- a line without the sign with which each request begins (37) is no request
no_request_without_sign : (line : List ℕ) → Lacks 37 line → IsNoRequest line
no_request_without_sign line h q r = (subst (λ l. Lacks 37 l) r.whole h).0 refl

-- no line of bytes without the sign (37), behind others without it (`before`), is a request
no_requests_without_sign : (before bytes : List ℕ) → Lacks 37 before → Lacks 37 bytes
    → AllByRecursion IsNoRequest (lines_of (frames_behind before bytes))
no_requests_without_sign before [] h g = tt
no_requests_without_sign before (b ∷ bytes) h g =
    chosen (is_line_feed b)
    (lines_of_framed IsNoRequest (frame_of before) (frames_behind [] bytes)
    (λ line e. no_request_without_sign line (subst (λ l. Lacks 37 l) (sym (frame_line before line e))
    (every_take (λ b. b ≢ 37) before (length before - 1) h))) (no_requests_without_sign [] bytes tt g.1))
    (no_requests_without_sign (before ++ b ∷ []) bytes (all_append (λ b. b ≢ 37) before (b ∷ []) h (g.0, tt)) g.1)
  where
    -- the lemma above, by whether the next byte ends a frame (`t`)
    chosen : (t : Bool) → AllByRecursion IsNoRequest (lines_of (map frame_of (before ∷ pieces_behind [] bytes)))
        → AllByRecursion IsNoRequest (lines_of (frames_behind (before ++ b ∷ []) bytes))
        → AllByRecursion IsNoRequest (lines_of (map frame_of (cond t (before ∷ pieces_behind [] bytes) (pieces_behind (before ++ b ∷ []) bytes))))
    chosen true here later = here
    chosen false here later = later

-- bytes without a CR don't end in one
no_return_at_end : (bytes : List ℕ) → Lacks 13 bytes → ends_in_return bytes ≡ false
no_return_at_end [] h = refl
no_return_at_end (b ∷ bytes) h =
    let last : eqb (slice_index (b ∷ bytes) (length (b ∷ bytes) - 1)) 13 ≡ false =
    ne_eqb (slice_index (b ∷ bytes) (length (b ∷ bytes) - 1)) 13 (All-from_recursion
    (λ b. b ≢ 13) (b ∷ bytes) h (length (b ∷ bytes) - 1) 0 (omega arith)) in
    ap (λ t. ltb 0 (length (b ∷ bytes)) && t) last ∙ and-false (ltb 0 (length (b ∷ bytes)))

-- bytes without a CR are no line
no_line : (bytes : List ℕ) → Lacks 13 bytes → frame_of bytes ≡ Cleared
no_line bytes h = ap (λ t. cond t (cond (ltb 512 (length bytes - 1)) Overlong (Line (record { items = take (length bytes - 1) bytes }))) Cleared) (no_return_at_end bytes h)

-- if the bytes `before` are no line, and no piece of `here` is one, nor of `later`: there are no lines, whether the pieces are
-- `before` and then `here` (`t`), or `later`
no_lines_either_way : (t : Bool) (before : List ℕ) (here later : List (List ℕ)) → frame_of before ≡ Cleared → lines_of (map frame_of here) ≡ []
    → lines_of (map frame_of later) ≡ [] → lines_of (map frame_of (cond t (before ∷ here) later)) ≡ []
no_lines_either_way true before here later none h g = ap (λ f. lines_of (f ∷ map frame_of here)) none ∙ h
no_lines_either_way false before here later none h g = g

-- no lines are in bytes without a CR, behind others without one (`before`)
no_lines : (before bytes : List ℕ) → Lacks 13 before → Lacks 13 bytes → lines_of (frames_behind before bytes) ≡ []
no_lines before [] h g = refl
no_lines before (b ∷ bytes) h g =
    no_lines_either_way (is_line_feed b) before (pieces_behind [] bytes) (pieces_behind (before ++ b ∷ []) bytes) (no_line before h) (no_lines [] bytes tt g.1)
    (no_lines (before ++ b ∷ []) bytes (all_append (λ b. b ≢ 13) before (b ∷ []) h (g.0, tt)) g.1)

-- A request.

-- each request of a call that fits is whole or nothing, whatever its id
pub whole_or_nothing : CutRequestsAreWholeOrNothing
whole_or_nothing id call fits =
    let line = request_line (Some id) call in
    let above = above_body id call fits in
    record {
      front = λ count le. ap (λ l. lines (l ++ 10 ∷ [])) (take-append-le count line (13 ∷ 10 ∷ []) le)
          ∙ no_lines [] (take count line ++ 10 ∷ []) tt
          (all_append (λ b. b ≢ 13) (take count line) (10 ∷ []) (every_take (λ b. b ≢ 13) line count
          ((λ e. omega (arith, e)), all_on (λ b. 37 < b) (λ b. b ≢ 13) (request_body id call) (λ b l e. omega (arith, l, e)) above)) ((λ e. omega (arith, e)), tt));
      whole = ap (λ l. l ++ 10 ∷ []) (take-append-add line (13 ∷ 10 ∷ []) 1) ∙ append_assoc line (13 ∷ []) (10 ∷ []);
      tail = λ count some. tail_of above count some;
    }
  where
    -- a tail of a request that lacks at least the request's first byte has no request in it
    tail_of : AreAbove (request_body id call) → (count : ℕ) → 0 < count → HasNoRequest (drop count (request_bytes id call))
    tail_of above zero some = absurd (omega (arith, some))
    tail_of above (suc k) some =
        no_requests_without_sign [] (drop k (request_body id call ++ 13 ∷ 10 ∷ [])) tt
        (every_drop (λ b. b ≢ 37) (request_body id call ++ 13 ∷ 10 ∷ []) k (all_append (λ b. b ≢ 37) (request_body id call) (13 ∷ 10 ∷ [])
        (all_on (λ b. 37 < b) (λ b. b ≢ 37) (request_body id call) (λ b l e. omega (arith, l, e)) above) ((λ e. omega (arith, e)), ((λ e. omega (arith, e)), tt))))
