-- Numbers and moments appear unchanged in a field: the escapes of a field (`escaped`) change nothing in them. A code without its zeros
-- is the same number.
use Rattle.gc_rows.proofs.Common.{◌≡◌, ℕ, Bool, zero, suc, ◌+◌, ◌/◌, ◌%◌, ◌<◌, ◌≤◌, true, false, cond, List, [], ◌∷◌, ◌++◌, Option, Some, None, refl, ap, ◌∙◌, arith, ℤ, sym, subst, ◌&&◌, codes, nat_lt, not, decimal, digit_glyph, digits_onto, AllDigits, div-add-mod, and_from, cond_both, lt-ltb, ne_eqb, eqb-true, flat_map-append, AreDigits, signed_text, written, HasDecimalForm, HasWholeForm, minus_where, escape, escaped, hex_digit, date_of, date_text, stamp_text, three_digits, time_text, two_digits, moment_text, date_within, digit_from_value, IsSmallNumber, Decimal, whole_text_once, decimal_text_once, without_zeros, quantity_text}
use Rattle.std.specs.Prelude.{◌==◌}
use Rattle.std.specs.Fmt.{digits}
use Rattle.gc_values.specs.declared.value.Value.TheVariants as value

-- escaping changes nothing in this text
abbrev pub NeedsNoEscape : List ℕ → Type 0
NeedsNoEscape text = escaped text ≡ text

-- a digit is printed as it is
digit_plain : (d : ℕ) → 48 ≤ d → d ≤ 57 → escape d ≡ d ∷ []
digit_plain d low high =
    let not_mark : not (d == 92) ≡ true = ap not (ne_eqb d 92 (λ e. omega (arith, e, high))) in
    let shown : nat_lt 31 d && nat_lt d 127 && not (d == 92) ≡ true =
    and_from _ _ (and_from _ _ (lt-ltb 31 d (omega (arith, low))) (lt-ltb d 127 (omega (arith, high)))) not_mark in
    ap (λ b. cond b (d ∷ []) (92 ∷ 120 ∷ hex_digit (d / 16) ∷ hex_digit (d % 16) ∷ [])) shown

-- bytes that are digits, by `AreDigits`, are printed as they are
pub digits_plain : (ds : List ℕ) → AreDigits ds → NeedsNoEscape ds
digits_plain [] are = refl
digits_plain (d ∷ ds) are = ap (λ l. l ++ escaped ds) (digit_plain d are.0.0 are.0.1) ∙ ap (λ l. d ∷ l) (digits_plain ds are.1)

-- digits as std has them (`AllDigits 10`) are digits as gc_values has them (`AreDigits`)
pub same_digits : (ds : List ℕ) → AllDigits 10 ds → AreDigits ds
same_digits [] h = tt
same_digits (d ∷ ds) h = (digit_from_value d h.0, same_digits ds h.1)

-- bytes that are digits, by `AllDigits`, are printed as they are
pub number_plain : (ds : List ℕ) → AllDigits 10 ds → NeedsNoEscape ds
number_plain ds are = digits_plain ds (same_digits ds are)

-- the last place of a number is printed as a digit
glyph_is_digit : (n : ℕ) → (48 ≤ digit_glyph false (n % 10)) × (digit_glyph false (n % 10) ≤ 57)
glyph_is_digit n = small (n % 10) (omega arith) where
  -- the character of a number below 10 is a digit
  small : (r : ℕ) → r < 10 → (48 ≤ digit_glyph false r) × (digit_glyph false r ≤ 57)
  small r few = cond_both (nat_lt r 10) (48 + r) (87 + r) (λ (x : ℕ). (48 ≤ x) × (x ≤ 57)) (λ _. (omega arith, omega (arith, few))) (λ no. let is = lt-ltb r 10 few in absurd (cc))

-- digits of a number put before digits are digits
onto_digits : (k n : ℕ) (acc : List ℕ) → AreDigits acc → AreDigits (digits_onto k 10 false n acc)
onto_digits zero n acc are = are
onto_digits (suc k) n acc are =
    cond_both (n / 10 == 0) (digit_glyph false (n % 10) ∷ acc) (digits_onto k 10 false (n / 10) (digit_glyph false (n % 10) ∷ acc)) AreDigits
    (λ _. (glyph_is_digit n, are)) (λ _. onto_digits k (n / 10) (digit_glyph false (n % 10) ∷ acc) (glyph_is_digit n, are))

-- the decimal of any number is digits
pub decimal_digits : (n : ℕ) → AreDigits (decimal n)
unfolding digits
decimal_digits n = onto_digits 64 n [] tt

-- the decimal of any number is printed as it is
pub decimal_plain : (n : ℕ) → NeedsNoEscape (decimal n)
decimal_plain n = digits_plain (decimal n) (decimal_digits n)

-- bytes that appear unchanged in a field, and others after them, do so together
pub plain_both : (xs ys : List ℕ) → NeedsNoEscape xs → NeedsNoEscape ys → NeedsNoEscape (xs ++ ys)
plain_both xs ys x y = flat_map-append escape xs ys ∙ ap (λ (l : List ℕ). l ++ escaped ys) x ∙ ap (λ (l : List ℕ). xs ++ l) y

-- the two digits of a number below 100 appear unchanged in a field
two_plain : (n : ℕ) → n < 100 → NeedsNoEscape (two_digits n)
two_plain n few = digits_plain (two_digits n) ((omega arith, omega (arith, few, div-add-mod n 10)), ((omega arith, omega arith), tt))

-- the three digits of a number below 1000 appear unchanged in a field
three_plain : (n : ℕ) → n < 1000 → NeedsNoEscape (three_digits n)
three_plain n few =
    digits_plain (three_digits n)
    ((omega arith, omega (arith, few, div-add-mod n 100)), ((omega arith, omega (arith, div-add-mod (n % 100) 10)), ((omega arith, omega arith), tt)))

-- a date whose month is at most 12, and whose day at most 31, appears unchanged in a field
date_plain : (year month day : ℕ) → month ≤ 12 → day ≤ 31 → NeedsNoEscape (decimal year ++ codes "-" ++ two_digits month ++ codes "-" ++ two_digits day)
date_plain year month day m d =
    plain_both (decimal year ++ codes "-" ++ two_digits month ++ codes "-") (two_digits day)
    (plain_both (decimal year ++ codes "-" ++ two_digits month) (codes "-")
    (plain_both (decimal year ++ codes "-") (two_digits month) (plain_both (decimal year) (codes "-") (decimal_plain year) refl) (two_plain month (omega (arith, m)))) refl)
    (two_plain day (omega (arith, d)))

-- a time of day, in milliseconds below those of 24 hours, appears unchanged in a field
time_plain : (millis : ℕ) → millis < 86400000 → NeedsNoEscape (time_text millis)
time_plain millis few =
    let hours = two_digits (millis / 3_600_000) in
    let minutes = two_digits (millis / 60_000 % 60) in
    let seconds = two_digits (millis / 1_000 % 60) in
    let rest = three_digits (millis % 1_000) in
    plain_both hours (58 ∷ (minutes ++ (58 ∷ (seconds ++ (46 ∷ rest))))) (two_plain (millis / 3_600_000) (omega (arith, few, div-add-mod millis 3600000)))
    (plain_both (58 ∷ []) (minutes ++ (58 ∷ (seconds ++ (46 ∷ rest)))) refl
    (plain_both minutes (58 ∷ (seconds ++ (46 ∷ rest))) (two_plain (millis / 60_000 % 60) (omega arith))
    (plain_both (58 ∷ []) (seconds ++ (46 ∷ rest)) refl
    (plain_both seconds (46 ∷ rest) (two_plain (millis / 1_000 % 60) (omega arith)) (plain_both (46 ∷ []) rest refl (three_plain (millis % 1_000) (omega arith)))))))

-- a stamp appears unchanged in a field
pub stamp_plain : (utc : ℕ) → NeedsNoEscape (stamp_text utc)
stamp_plain utc =
    let days = utc / 86_400_000 in
    let date = date_text (date_of days) in
    let within = date_within days in
    plain_both (date ++ codes "T" ++ time_text (utc % 86_400_000)) (codes "Z")
    (plain_both (date ++ codes "T") (time_text (utc % 86_400_000))
    (plain_both date (codes "T") (date_plain (date_of days).year (date_of days).month (date_of days).day within.month within.day) refl) (time_plain (utc % 86_400_000) (omega arith))) refl

-- a moment, or none, appears unchanged in a field
pub moment_plain : (o : Option ℕ) → NeedsNoEscape (moment_text o)
moment_plain None = refl
moment_plain (Some utc) = stamp_plain utc

-- escaping changes nothing in a minus sign, if there is one
minus_plain : (negative : Bool) → NeedsNoEscape (minus_where negative)
minus_plain true = refl
minus_plain false = refl

-- escaping changes nothing in a text in the form of a whole number
whole_plain : (text : List ℕ) → HasWholeForm text → NeedsNoEscape text
whole_plain text form =
    subst NeedsNoEscape (sym form.text_is)
    (plain_both (minus_where form.negative) form.digits (minus_plain form.negative) (digits_plain form.digits form.digits_are.are_digits))

-- escaping changes nothing in a point (46) and digits after it
point_plain : (ds : List ℕ) → AreDigits ds → NeedsNoEscape (46 ∷ ds)
point_plain ds are = ap (λ (l : List ℕ). 46 ∷ l) (digits_plain ds are)

-- escaping changes nothing in a text in the form of a decimal
fraction_plain : (text : List ℕ) → HasDecimalForm text → NeedsNoEscape text
fraction_plain text form =
    subst NeedsNoEscape (sym form.text_is)
    (plain_both (minus_where form.negative) (form.whole ++ 46 ∷ form.fraction) (minus_plain form.negative)
    (plain_both form.whole (46 ∷ form.fraction) (digits_plain form.whole form.whole_is.are_digits) (point_plain form.fraction form.fraction_is.are_digits)))

-- escaping changes nothing in the text of a whole number
pub signed_plain : (n : ℤ) → NeedsNoEscape (signed_text n)
signed_plain n = whole_plain (signed_text n) ((whole_text_once n (signed_text n)).0 refl).0

-- escaping changes nothing in the text of a decimal
pub double_plain : (d : Decimal) → NeedsNoEscape (quantity_text (value.Double d))
double_plain d = fraction_plain (written d.digits d.scale) ((decimal_text_once d (written d.digits d.scale)).0 refl).0

-- escaping changes nothing in the text of a truth value
pub boolean_plain : (b : Bool) → NeedsNoEscape (quantity_text (value.Bool b))
boolean_plain true = refl
boolean_plain false = refl

-- escaping changes nothing in the digits of a code
pub code_plain : (digits : List ℕ) (n : ℕ) → IsSmallNumber digits n → NeedsNoEscape digits
code_plain digits n is = number_plain digits is.digits

-- digits that are the number n are that number also without their leading zeros
pub zeros_gone : (ds : List ℕ) (n : ℕ) → IsSmallNumber ds n → IsSmallNumber (without_zeros ds) n
zeros_gone [] n is = is
zeros_gone (b ∷ []) n is = is
zeros_gone (b ∷ c ∷ rest) n is =
    cond_both (b == 48) (without_zeros (c ∷ rest)) (b ∷ c ∷ rest) (λ (l : List ℕ). IsSmallNumber l n)
    (λ zero_first. zeros_gone (c ∷ rest) n (behind_zero (eqb-true b 48 zero_first) is)) (λ other. is) where
      -- a number without a zero before it is the same number
      behind_zero : b ≡ 48 → IsSmallNumber (b ∷ c ∷ rest) n → IsSmallNumber (c ∷ rest) n
      behind_zero e h =
          let at_zero : IsSmallNumber (48 ∷ c ∷ rest) n = subst (λ (x : ℕ). IsSmallNumber (x ∷ c ∷ rest) n) e h in
          record { some = omega arith; few = let few = at_zero.few in omega (arith, few); digits = at_zero.digits.1; value = at_zero.value; bound = at_zero.bound }
