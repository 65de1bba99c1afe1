-- The number that a text spells, as `specs/Numerals` computes it, is the one that it spells.
use Rattle.gc_texts.proofs.Common.{◌≡◌, ℕ, ◌+◌, ◌*◌, ◌^◌, ◌<◌, ◌%◌, ◌==◌, ◌&&◌, ◌||◌, Bool, true, false, nat_le, nat_lt, not, unsigned_abs, inl, inr, List, [], ◌∷◌, ◌++◌, length, Option, None, Some, ℤ, if◌then◌else◌, arith, refl, sym, ap, ◌∙◌, subst, append-nil, and_parts, and_from, both_ways, cases_eq, cond-true, eqb-false, eqb-true, ltb-true, lt-ltb, ne_eqb, none-some, same_Some, StartsNoDigit, CutsDigits, CutsFraction, CutsSign, ReadsExponent, SpellsDecimal, IsDigit, AreDigits, number, Fraction, is_decimal, signed, half_up, half_up_rounds, stripped_is, ten_pow_pos, Absent, Plus, Minus, is_minus, sign_text, Exponent, IsExponent, IsExponentDigits, exponent_text, mark, ups, fraction_digits, Spells, NamesFraction, Placed, stripped, Decimal, IsReadAs}
use borrow.Author.Tests.{leb-true, le-leb}
use Rattle.gc_values.specs.Prelude.{decimal}
use Rattle.gc_values.proofs.DecimalLemmas.{same_decimal}
use Rattle.gc_values.proofs.ReadLemmas.{spells_once}
use Rattle.gc_values.proofs.Rounded.{rounded_from}
use Rattle.gc_values.proofs.Unique.{Cut, same_parts, numeral_of, cut_is_numeral, sign_once, digits_no_sign}
use Rattle.gc_texts.proofs.Items.{no_bytes}
use Rattle.gc_texts.specs.Numerals.{begins_with_minus, behind_sign, is_digit, digits_at, behind_digits, places_at, behind_places, Tens, tens_of, exponent_at, if_decimal, rounded_if, numeral_if, decimal_in, DecimalsAreSpelled}

-- How a text is cut.

-- a byte that passes the test is a digit
digit_of_test : (b : ℕ) → is_digit b ≡ true → IsDigit b
digit_of_test b e = let both = and_parts (nat_le 48 b) (nat_le b 57) e in (leb-true 48 b both.0, leb-true b 57 both.1)

-- a digit passes the test
test_of_digit : (b : ℕ) → IsDigit b → is_digit b ≡ true
test_of_digit b d = and_from (nat_le 48 b) (nat_le b 57) (le-leb 48 b d.0) (le-leb b 57 d.1)

-- a text is its digits, and what follows them
cut_digits : (text : List ℕ) → CutsDigits text (digits_at text) (behind_digits text)
cut_digits [] = record { text_is = refl; digits = tt; longest = tt }
cut_digits (b ∷ bs) = by_test (is_digit b) refl (cut_digits bs) where
  -- the lemma above, by whether the first byte is a digit (`z`)
  by_test : (z : Bool) → is_digit b ≡ z → CutsDigits bs (digits_at bs) (behind_digits bs)
      → CutsDigits (b ∷ bs) (if z then b ∷ digits_at bs else []) (if z then behind_digits bs else b ∷ bs)
  by_test true e more = record { text_is = ap (λ xs. b ∷ xs) more.text_is; digits = (digit_of_test b e, more.digits); longest = more.longest }
  by_test false e more = record { text_is = refl; digits = tt; longest = λ d. both_ways (is_digit b) e (test_of_digit b d) }

-- a text is its sign, if it has one, and what follows it
cut_sign : (text : List ℕ) → CutsSign text (begins_with_minus text) (behind_sign text)
cut_sign [] = record { sign = Absent; text_is = refl; negative_is = refl; first = λ _. tt }
cut_sign (b ∷ bs) = elim (cases_eq b 43) [
  | inl plus ↦ subst (λ x. CutsSign (x ∷ bs) (x == 45) (if (x == 43) || (x == 45) then bs else x ∷ bs)) (sym plus)
      (record { sign = Plus; text_is = refl; negative_is = refl; first = λ e. absurd (cc) })
  | inr no_plus ↦ elim (cases_eq b 45) [
    | inl minus ↦ subst (λ x. CutsSign (x ∷ bs) (x == 45) (if (x == 43) || (x == 45) then bs else x ∷ bs)) (sym minus)
        (record { sign = Minus; text_is = refl; negative_is = refl; first = λ e. absurd (cc) })
    | inr no_minus ↦ unsigned (b == 45) ((b == 43) || (b == 45)) (ne_eqb b 45 no_minus) (ap (λ z. z || (b == 45)) (ne_eqb b 43 no_plus) ∙ ne_eqb b 45 no_minus) no_plus no_minus
  ]
] where
  -- the lemma above for a text whose first byte is no sign, as the tests say
  unsigned : (m z : Bool) → m ≡ false → z ≡ false → (b ≡ 43 → ⊥) → (b ≡ 45 → ⊥) → CutsSign (b ∷ bs) m (if z then bs else b ∷ bs)
  unsigned m z e f no_plus no_minus =
      subst (λ x. CutsSign (b ∷ bs) x (if z then bs else b ∷ bs)) (sym e)
      (subst (λ x. CutsSign (b ∷ bs) false (if x then bs else b ∷ bs)) (sym f)
      (record { sign = Absent; text_is = refl; negative_is = refl; first = λ _. (no_plus, no_minus) }))

-- a text that begins with no digit is its fraction, if it has one, and what follows it
cut_places : (text : List ℕ) → StartsNoDigit text → CutsFraction text (places_at text) (behind_places text)
cut_places [] none = record { fraction = None; text_is = refl; run_is = refl; digits = tt; no_point = λ _. tt; longest = tt }
cut_places (b ∷ bs) none = elim (cases_eq b 46) [
  | inl point ↦
      let cut = cut_digits bs in
      subst (λ x. CutsFraction (x ∷ bs) (if x == 46 then digits_at bs else []) (if x == 46 then behind_digits bs else x ∷ bs)) (sym point)
      (record {
        fraction = Some (digits_at bs);
        text_is = ap (λ xs. 46 ∷ xs) cut.text_is;
        run_is = refl;
        digits = cut.digits;
        no_point = λ e. absurd (cc);
        longest = cut.longest;
      })
  | inr other ↦
      subst (λ z. CutsFraction (b ∷ bs) (if z then digits_at bs else []) (if z then behind_digits bs else b ∷ bs)) (sym (ne_eqb b 46 other))
      (record { fraction = None; text_is = refl; run_is = refl; digits = tt; no_point = λ _. other; longest = none })
]

-- what passes the tests of an exponent's digits is such digits
exponent_digits : (ds : List ℕ) → (nat_lt 0 (length ds) && (nat_le (length ds) 3 && (length (behind_digits ds) == 0))) ≡ true → IsExponentDigits ds
exponent_digits ds is =
    let some = and_parts (nat_lt 0 (length ds)) (nat_le (length ds) 3 && (length (behind_digits ds) == 0)) is in
    let few = and_parts (nat_le (length ds) 3) (length (behind_digits ds) == 0) some.1 in
    let cut = cut_digits ds in
    let none : behind_digits ds ≡ [] = no_bytes (behind_digits ds) (eqb-true (length (behind_digits ds)) 0 few.1) in
    record {
      digits_are = subst AreDigits (sym (cut.text_is ∙ ap (λ xs. digits_at ds ++ xs) none ∙ append-nil (digits_at ds))) cut.digits;
      some = ltb-true 0 (length ds) some.0;
      few = leb-true (length ds) 3 few.0;
    }

-- digits alone have nothing behind them
digits_end : (ds : List ℕ) → AreDigits ds → behind_digits ds ≡ []
digits_end [] are = refl
digits_end (d ∷ ds) are = cond-true (is_digit d) (behind_digits ds) (d ∷ ds) (test_of_digit d are.0) ∙ digits_end ds are.1

-- what follows an exponent's mark, where it is an exponent
reads_behind_mark : (capital : Bool) (bs : List ℕ) (tens : Tens) → tens_of (begins_with_minus bs) (behind_sign bs) ≡ Some tens
    → ReadsExponent (mark capital ∷ bs) tens.ups tens.downs
reads_behind_mark capital bs tens e =
    by_test (nat_lt 0 (length (behind_sign bs)) && (nat_le (length (behind_sign bs)) 3 && (length (behind_digits (behind_sign bs)) == 0))) refl e where
      -- the lemma above, by whether the digits pass their tests (`z`)
      by_test : (z : Bool) → (nat_lt 0 (length (behind_sign bs)) && (nat_le (length (behind_sign bs)) 3 && (length (behind_digits (behind_sign bs)) == 0))) ≡ z
          → (if z then Some (record {
            ups = if begins_with_minus bs then 0 else number (behind_sign bs);
            downs = if begins_with_minus bs then number (behind_sign bs) else 0;
          }) else None) ≡ Some tens → ReadsExponent (mark capital ∷ bs) tens.ups tens.downs
      by_test false is none = absurd (none-some tens none)
      by_test true is some =
          let cut = cut_sign bs in
          let same = same_Some _ tens some in
          record {
            exponent = Some (record { capital = capital; sign = cut.sign; digits = behind_sign bs });
            form = exponent_digits (behind_sign bs) is;
            text_is = ap (λ xs. mark capital ∷ xs) cut.text_is;
            up_is = ap (λ (t : Tens). t.ups) (sym same) ∙ ap (λ n. if n then 0 else number (behind_sign bs)) cut.negative_is;
            down_is = ap (λ (t : Tens). t.downs) (sym same) ∙ ap (λ n. if n then number (behind_sign bs) else 0) cut.negative_is;
          }

-- where `exponent_at` finds an exponent, the text is one
reads_exponent : (text : List ℕ) (tens : Tens) → exponent_at text ≡ Some tens → ReadsExponent text tens.ups tens.downs
reads_exponent [] tens e =
    subst (λ (t : Tens). ReadsExponent [] t.ups t.downs) (same_Some _ tens e) (record { exponent = None; form = tt; text_is = refl; up_is = refl; down_is = refl })
reads_exponent (b ∷ bs) tens e = elim (cases_eq b 69) [
  | inl capital ↦ subst (λ x. ReadsExponent (x ∷ bs) tens.ups tens.downs) (sym capital) (reads_behind_mark true bs tens (sym (ap (λ x. exponent_at (x ∷ bs)) capital) ∙ e))
  | inr no_capital ↦ elim (cases_eq b 101) [
    | inl small ↦ subst (λ x. ReadsExponent (x ∷ bs) tens.ups tens.downs) (sym small) (reads_behind_mark false bs tens (sym (ap (λ x. exponent_at (x ∷ bs)) small) ∙ e))
    | inr no_small ↦ absurd (none-some tens (sym (ap (λ z. if z then tens_of (begins_with_minus bs) (behind_sign bs) else None)
        (ap (λ z. z || (b == 101)) (ne_eqb b 69 no_capital) ∙ ne_eqb b 101 no_small)) ∙ e))
  ]
]

-- `exponent_at` finds each exponent
finds_exponent : (x : Option Exponent) → IsExponent x → (tens : Tens) × (exponent_at (exponent_text x) ≡ Some tens)
finds_exponent None form = (record { ups = 0; downs = 0 }, refl)
finds_exponent (Some x) form =
    let bs = sign_text x.sign ++ x.digits in
    let cut = cut_sign bs in
    let same : behind_sign bs ≡ x.digits = (sign_once cut.sign x.sign (behind_sign bs) x.digits cut.first (digits_no_sign x.digits form.digits_are) (sym cut.text_is)).1 in
    let passes : (nat_lt 0 (length x.digits) && (nat_le (length x.digits) 3 && (length (behind_digits x.digits) == 0))) ≡ true =
    and_from (nat_lt 0 (length x.digits)) (nat_le (length x.digits) 3 && (length (behind_digits x.digits) == 0)) (lt-ltb 0 (length x.digits) form.some)
    (and_from (nat_le (length x.digits) 3) (length (behind_digits x.digits) == 0) (le-leb (length x.digits) 3 form.few)
    (ap (λ ds. length ds == 0) (digits_end x.digits form.digits_are))) in
    let tens : Tens = record { ups = if begins_with_minus bs then 0 else number x.digits; downs = if begins_with_minus bs then number x.digits else 0 } in
    (tens, by_mark x.capital bs ∙ ap (tens_of (begins_with_minus bs)) same ∙ ap (λ z. if z then Some tens else None) passes) where
      -- either mark begins an exponent
      by_mark : (capital : Bool) (bs : List ℕ) → exponent_at (mark capital ∷ bs) ≡ tens_of (begins_with_minus bs) (behind_sign bs)
      by_mark true bs = refl
      by_mark false bs = refl

-- the parts of a text
abbrev cut_of : (text : List ℕ) → Cut text
cut_of text =
    record {
      negative = begins_with_minus text;
      behind_sign = behind_sign text;
      whole = digits_at (behind_sign text);
      behind_whole = behind_digits (behind_sign text);
      fraction = places_at (behind_digits (behind_sign text));
      rest = behind_places (behind_digits (behind_sign text));
      sign = cut_sign text;
      digits = cut_digits (behind_sign text);
      point = cut_places (behind_digits (behind_sign text)) (cut_digits (behind_sign text)).longest;
    }

-- The number of a text.

-- the fraction of a sign, digits before and behind the point, and an exponent
abbrev fraction_with : (negative : Bool) (whole places : List ℕ) (up down : ℕ) → Fraction
fraction_with negative whole places up down = record { n = signed negative (number (whole ++ places) * 10 ^ up); k = length places + down }

-- a text with an exponent, or none, and a digit
module _
    (text : List ℕ) (tens : Tens) (e : exponent_at (cut_of text).rest ≡ Some tens)
    (some : 0 < length (cut_of text).whole + length (cut_of text).fraction) where
  -- its magnitude is this number over a power of ten
  abbrev top : ℕ
  top = number ((cut_of text).whole ++ (cut_of text).fraction) * 10 ^ tens.ups

  -- and this is the power
  abbrev under : ℕ
  under = length (cut_of text).fraction + tens.downs

  -- it is rounded to 24 places
  abbrev rounded : Placed
  rounded = stripped (half_up (top * 10 ^ 24) (10 ^ under)) 24

  -- the text names its fraction
  names_fraction : NamesFraction text (fraction_with (cut_of text).negative (cut_of text).whole (cut_of text).fraction tens.ups tens.downs)
  names_fraction =
      let c = cut_of text in
      let r = cut_is_numeral text c (numeral_of c tens.ups tens.downs) (refl, refl, refl) some (reads_exponent c.rest tens e) in (
        r.parts,
        r.form,
        r.text_is,
        ap (λ b. fraction_with b c.whole c.fraction tens.ups tens.downs) r.negative_is
            ∙ ap (λ w. fraction_with (is_minus r.parts.sign) w c.fraction tens.ups tens.downs) r.whole_is
            ∙ ap (λ f. fraction_with (is_minus r.parts.sign) r.parts.whole f tens.ups tens.downs) r.fraction_is
            ∙ ap (λ u. fraction_with (is_minus r.parts.sign) r.parts.whole (fraction_digits r.parts.fraction) u tens.downs) r.up_is
            ∙ ap (λ d. fraction_with (is_minus r.parts.sign) r.parts.whole (fraction_digits r.parts.fraction) (ups r.parts.exponent) d) r.down_is,
      )

  -- the text spells its fraction, rounded
  spells_rounded : Spells text (signed (cut_of text).negative rounded.digits) rounded.places
  spells_rounded = (
    fraction_with (cut_of text).negative (cut_of text).whole (cut_of text).fraction tens.ups tens.downs,
    names_fraction,
    rounded_from (cut_of text).negative top under 24 (half_up (top * 10 ^ 24) (10 ^ under)) rounded.digits rounded.places
        (half_up_rounds (top * 10 ^ 24) (10 ^ under) (ten_pow_pos under)) (stripped_is (half_up (top * 10 ^ 24) (10 ^ under)) 24),
  )

-- a decimal that was made has its digits and its scale
made_is : (m : ℤ) (s : ℕ) (b : Bool) (h : is_decimal m s ≡ b) (d : Decimal) → if_decimal m s b h ≡ Some d → (m ≡ d.digits) × (s ≡ d.scale)
made_is m s true h d e = let same = same_Some (decimal m s h) d e in (ap (λ (x : Decimal). x.digits) same, ap (λ (x : Decimal). x.scale) same)
made_is m s false h d e = absurd (none-some d e)

-- what `decimal_in` finds is spelled
found_is_spelled : (text : List ℕ) (d : Decimal) → decimal_in text ≡ Some d → SpellsDecimal text d
unfolding decimal_in
found_is_spelled text d found = by_exponent (exponent_at (cut_of text).rest) refl found where
  -- the lemma above, by whether there is a digit (`z`), for a text with an exponent, or none
  by_digits : (tens : Tens) → exponent_at (cut_of text).rest ≡ Some tens → (z : Bool) → nat_lt 0 (length (cut_of text).whole + length (cut_of text).fraction) ≡ z
      → (if z then rounded_if (cut_of text).negative (number ((cut_of text).whole ++ (cut_of text).fraction) * 10 ^ tens.ups) (length (cut_of text).fraction + tens.downs) else None) ≡ Some d
      → SpellsDecimal text d
  by_digits tens e false none found = absurd (none-some d found)
  by_digits tens e true some found =
      let is = ltb-true 0 (length (cut_of text).whole + length (cut_of text).fraction) some in
      let r = rounded text tens e is in
      let made = made_is (signed (cut_of text).negative r.digits) r.places (is_decimal (signed (cut_of text).negative r.digits) r.places) refl d found in
      subst (λ s. Spells text d.digits s) made.1 (subst (λ m. Spells text m r.places) made.0 (spells_rounded text tens e is))

  -- the lemma above, by what exponent there is
  by_exponent : (x : Option Tens) → exponent_at (cut_of text).rest ≡ x → numeral_if (cut_of text).negative (cut_of text).whole (cut_of text).fraction x ≡ Some d → SpellsDecimal text d
  by_exponent None e found = absurd (none-some d found)
  by_exponent (Some tens) e found = by_digits tens e (nat_lt 0 (length (cut_of text).whole + length (cut_of text).fraction)) refl found

-- a decimal passes the test for decimals
passes_test : (d : Decimal) → is_decimal d.digits d.scale ≡ true
passes_test d =
    and_from (nat_le d.scale 24) (nat_le (unsigned_abs d.digits) (10 ^ 13 * 10 ^ d.scale) && (d.scale == 0 || not (unsigned_abs d.digits % 10 == 0))) (le-leb d.scale 24 d.has_few_places)
    (and_from (nat_le (unsigned_abs d.digits) (10 ^ 13 * 10 ^ d.scale)) (d.scale == 0 || not (unsigned_abs d.digits % 10 == 0)) (le-leb (unsigned_abs d.digits) (10 ^ 13 * 10 ^ d.scale) d.is_in_range)
    (by_scale (d.scale == 0) refl)) where
      -- it is canonical, by whether its scale is 0 (`z`)
      by_scale : (z : Bool) → (d.scale == 0) ≡ z → (z || not (unsigned_abs d.digits % 10 == 0)) ≡ true
      by_scale true e = refl
      by_scale false e = let other = eqb-false d.scale 0 e in ap not (ne_eqb (unsigned_abs d.digits % 10) 0 (d.is_canonical (omega (arith, other))))

-- the decimal of its digits and its scale is made
is_made : (m : ℤ) (s : ℕ) (b : Bool) (h : is_decimal m s ≡ b) → b ≡ true → (d : Decimal) → m ≡ d.digits → s ≡ d.scale → if_decimal m s b h ≡ Some d
is_made m s true h shown d e f = ap Some (same_decimal (decimal m s h) d e f)
is_made m s false h bad d e f = absurd (cc)

-- what is spelled is found
spelled_is_found : (text : List ℕ) (d : Decimal) → SpellsDecimal text d → decimal_in text ≡ Some d
unfolding decimal_in
spelled_is_found text d (q, (p, form, text_is, q_is), near) =
    let c = cut_of text in
    let same = same_parts text c p form text_is in
    let found = finds_exponent p.exponent form.exponent in
    let e : exponent_at c.rest ≡ Some found.0 = ap exponent_at same.rest_is ∙ found.1 in
    let some : 0 < length c.whole + length c.fraction = omega (arith, form.some, ap length same.whole_is, ap length same.fraction_is) in
    let r = rounded text found.0 e some in
    let once = spells_once text (signed c.negative r.digits) r.places d.digits d.scale (spells_rounded text found.0 e some) (q, (p, form, text_is, q_is), near) in
    let passes : is_decimal (signed c.negative r.digits) r.places ≡ true = ap (λ m. is_decimal m r.places) once.0 ∙ ap (is_decimal d.digits) once.1 ∙ passes_test d in
    ap (numeral_if c.negative c.whole c.fraction) e
    ∙ cond-true (nat_lt 0 (length c.whole + length c.fraction)) (rounded_if c.negative (top text found.0 e some) (under text found.0 e some)) None (lt-ltb 0 (length c.whole + length c.fraction) some)
    ∙ is_made (signed c.negative r.digits) r.places (is_decimal (signed c.negative r.digits) r.places) refl passes d once.0 once.1

-- the law: `decimal_in` finds what a text spells
pub decimals_are_spelled : DecimalsAreSpelled
decimals_are_spelled text d = (found_is_spelled text d, spelled_is_found text d)

-- what is read of a text, if it is what the text spells, is what `decimal_in` finds
pub read_is_found : (text : List ℕ) (r : Option Decimal) → IsReadAs (SpellsDecimal text) r → r ≡ decimal_in text
read_is_found text (Some d) is = sym (spelled_is_found text d is)
read_is_found text None none = by_found (decimal_in text) refl where
  -- nothing is found, either
  by_found : (o : Option Decimal) → decimal_in text ≡ o → None ≡ o
  by_found None e = refl
  by_found (Some d) e = absurd (none d (found_is_spelled text d e))
