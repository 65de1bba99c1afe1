-- `values_read` gives what the tables of kinds say: values where parameters have them, and none where they have a fault.
use Rattle.gc_rows.proofs.Common.{◌≡◌, ◌≢◌, ◌<◌, ◌==◌, ◌%◌, ℕ, zero, suc, ◌+◌, ◌*◌, ◌^◌, Bool, true, false, cond, List, [], ◌∷◌, ◌++◌, length, ℤ, pos, negsuc, unsigned_abs, Option, Some, None, option_map, refl, sym, ap, ◌∙◌, subst, ◌⊎◌, inl, inr, arith, ◌&&◌, ◌||◌, nat_le, nat_lt, not, list_all, and_from, and_parts, cases_Bool, cases_eq, eq-eqb, eqb-false, false≢true, le-leb, leb-true, lt-ltb, ltb-true, ne_eqb, or_parts, NamesBoolean, IsByte, CutsDigits, CutsFraction, CutsSign, ReadsNumeral, StartsNoDigit, SpellsDecimal, AreDigits, IsDigit, number, Fraction, IsRounded, is_decimal, signed, IsItem, IsItemFault, kind_of, FirstFault, half_up, half_up_rounds, ten_pow_pos, Absent, Exponent, IsExponent, IsExponentDigits, Minus, Plus, Sign, downs, exponent_text, fraction_digits, is_minus, mark, sign_text, parts_value, ups, AreStringBytes, IsTextItem, IsBetween, NamesWhole, Placed, stripped, Decimal, ValueFault, Kind, Value, item_has_no_fault, AreOfKinds, BeginAs, IsItemsMisfit, IsKindsFault, KindsSeen, SuitsCount, faulty_item, faulty_items, open_quote, too_many, wrong_count, Powers, are_digits, before_quote, behind_digits, behind_fraction, behind_point, behind_sign, between, boolean_of, byte_in, byte_of, decimal_if, decimal_in, decimal_of, digits_in_front, exponent_in, has_minus, is_between, is_digit, items_as, powers, powers_of, rounded_decimal, short_text, suits_count, text_in, value_in, values_of_items, values_read, values_with, whole_if, whole_in}
use Rattle.std.proofs.lemmas.Int.{ints}
use Rattle.hex.specs.Hex.{hex_digit_value}
use Rattle.gc_values.specs.Prelude.{decimal}
use Rattle.gc_values.proofs.DecimalLemmas.{same_decimal}
use Rattle.gc_values.proofs.Rounded.{rounded_from, rounds_to_one, stripped_is}
use Rattle.gc_values.proofs.Unique.{Cut, cut_is_numeral, digits_no_sign, numeral_of, same_parts, sign_once}
use Rattle.gc_values.proofs.WholeLemmas.{rest_names_from_text, text_names_from_rest}
use Rattle.gc_rows.specs.ReadValues.{ValuesAreRead}
use Rattle.gc_rows.proofs.Items.{few_are_split, many_are_none, open_is_none}
use Rattle.gc_values.specs.declared.value.Kind.TheVariants as kind
use Rattle.gc_values.specs.declared.value.Value.TheVariants as value

-- Digits and signs.

-- a byte that is a digit passes the test
digit_passes : (b : ℕ) → IsDigit b → is_digit b ≡ true
digit_passes b h = and_from _ _ (le-leb 48 b h.0) (le-leb b 57 h.1)

-- a byte that passes the test is a digit
passes_digit : (b : ℕ) → is_digit b ≡ true → IsDigit b
passes_digit b e = let parts = and_parts (nat_le 48 b) (nat_le b 57) e in (leb-true 48 b parts.0, leb-true b 57 parts.1)

-- a byte that doesn't pass it is none
no_digit : (b : ℕ) → is_digit b ≡ false → IsDigit b → ⊥
no_digit b e h = false≢true (sym e ∙ digit_passes b h)

-- a text is cut into its longest run of digits and a rest
digits_cut : (text : List ℕ) → CutsDigits text (digits_in_front text) (behind_digits text)
digits_cut [] = record { text_is = refl; digits = tt; longest = tt }
digits_cut (b ∷ bs) = elim (cases_Bool (is_digit b)) [
  | inl holds ↦ rw holds (let more = digits_cut bs in record { text_is = ap (λ xs. b ∷ xs) more.text_is; digits = (passes_digit b holds, more.digits); longest = more.longest })
  | inr other ↦ rw other (record { text_is = refl; digits = tt; longest = no_digit b other })
]

-- a text is cut into a sign, where one comes first, and a rest
sign_cut : (text : List ℕ) → CutsSign text (has_minus text) (behind_sign text)
sign_cut [] = record { sign = Absent; text_is = refl; negative_is = refl; first = λ _. tt }
sign_cut (b ∷ bs) = elim (cases_eq b 43) [
  | inl plus ↦ subst (λ x. CutsSign (x ∷ bs) (has_minus (x ∷ bs)) (behind_sign (x ∷ bs))) (sym plus) (record { sign = Plus; text_is = refl; negative_is = refl; first = λ e. absurd (cc) })
  | inr no_plus ↦ elim (cases_eq b 45) [
    | inl minus ↦ subst (λ x. CutsSign (x ∷ bs) (has_minus (x ∷ bs)) (behind_sign (x ∷ bs))) (sym minus) (record { sign = Minus; text_is = refl; negative_is = refl; first = λ e. absurd (cc) })
    | inr no_minus ↦ rw (ne_eqb b 43 no_plus, ne_eqb b 45 no_minus) (record { sign = Absent; text_is = refl; negative_is = refl; first = λ _. (no_plus, no_minus) })
  ]
]

-- bytes that all pass the test are digits
all_pass : (bytes : List ℕ) → list_all is_digit bytes ≡ true → AreDigits bytes
all_pass [] e = tt
all_pass (b ∷ bs) e = let parts = and_parts (is_digit b) (list_all is_digit bs) e in (passes_digit b parts.0, all_pass bs parts.1)

-- digits all pass it
pass_all : (bytes : List ℕ) → AreDigits bytes → list_all is_digit bytes ≡ true
pass_all [] h = refl
pass_all (b ∷ bs) h = and_from _ _ (digit_passes b h.0) (pass_all bs h.1)

-- one digit or more pass the test `are_digits`
digits_pass : (bytes : List ℕ) → AreDigits bytes → 0 < length bytes → are_digits bytes ≡ true
digits_pass bytes h some = and_from _ _ (lt-ltb 0 (length bytes) some) (pass_all bytes h)

-- what passes it is one digit or more
passes_digits : (bytes : List ℕ) → are_digits bytes ≡ true → AreDigits bytes × (0 < length bytes)
passes_digits bytes e = let parts = and_parts (nat_lt 0 (length bytes)) (list_all is_digit bytes) e in (all_pass bytes parts.1, ltb-true 0 (length bytes) parts.0)

-- Whole numbers.

-- a text that writes a whole number is read as this
pub whole_read : (text : List ℕ) (z : ℤ) → NamesWhole text z → whole_in text ≡ Some z
whole_read text z w =
    let r = rest_names_from_text text (behind_sign text) (has_minus text) z (sign_cut text) w in
    ap (λ b. whole_if b (signed (has_minus text) (number (behind_sign text)))) (digits_pass (behind_sign text) r.1.digits r.1.some)
    ∙ ap (λ n. Some (signed (has_minus text) n)) (sym r.1.value) ∙ ap Some (sym r.2)

-- a text is read as no whole number, or as one that it writes
pub whole_or_none : (text : List ℕ) → (whole_in text ≡ None) ⊎ ((z : ℤ) × (whole_in text ≡ Some z) × NamesWhole text z)
whole_or_none text = elim (cases_Bool (are_digits (behind_sign text))) [
  | inl holds ↦
      let digits = passes_digits (behind_sign text) holds in
      let n = number (behind_sign text) in
      inr (
        signed (has_minus text) n,
        ap (λ b. whole_if b (signed (has_minus text) n)) holds,
        text_names_from_rest text (behind_sign text) (has_minus text) n (sign_cut text)
            (record { digits = digits.0; some = digits.1; value = refl }),
      )
  | inr other ↦ inl (ap (λ b. whole_if b (signed (has_minus text) (number (behind_sign text)))) other)
]

-- a number that passes the test `is_between` is between
pub passes_between : (below above : ℕ) (z : ℤ) → is_between below above z ≡ true → IsBetween below above z
passes_between below above (pos n) e = let h = leb-true n above e in (omega (arith, ints), omega (arith, ints, h))
passes_between below above (negsuc n) e = let h = leb-true (suc n) below e in (omega (arith, ints, h), omega (arith, ints))

-- a number that is between passes it
between_passes : (below above : ℕ) (z : ℤ) → IsBetween below above z → is_between below above z ≡ true
between_passes below above (pos n) h = let high = h.1 in le-leb n above (omega (arith, ints, high))
between_passes below above (negsuc n) h = let low = h.0 in le-leb (suc n) below (omega (arith, ints, low))

-- Decimals.

-- a text that begins with no digit is cut into a fraction, or none, and a rest
fraction_cut : (text : List ℕ) → StartsNoDigit text → CutsFraction text (behind_point text) (behind_fraction text)
fraction_cut [] none = record { fraction = None; text_is = refl; run_is = refl; digits = tt; no_point = λ _. tt; longest = tt }
fraction_cut (b ∷ bs) none = elim (cases_eq b 46) [
  | inl point ↦ subst (λ x. CutsFraction (x ∷ bs) (behind_point (x ∷ bs)) (behind_fraction (x ∷ bs))) (sym point)
      (let cut = digits_cut bs in record { fraction = Some (digits_in_front bs); text_is = ap (λ xs. 46 ∷ xs) cut.text_is; run_is = refl; digits = cut.digits; no_point = λ e. absurd (cc); longest = cut.longest })
  | inr other ↦ rw (ne_eqb b 46 other) (record { fraction = None; text_is = refl; run_is = refl; digits = tt; no_point = λ _. other; longest = none })
]

-- a text is cut from the left: into a sign, digits, a fraction and a rest
cut_of : (text : List ℕ) → Cut text
cut_of text =
    let digits = digits_cut (behind_sign text) in
    record {
      negative = has_minus text;
      behind_sign = behind_sign text;
      whole = digits_in_front (behind_sign text);
      behind_whole = behind_digits (behind_sign text);
      fraction = behind_point (behind_digits (behind_sign text));
      rest = behind_fraction (behind_digits (behind_sign text));
      sign = sign_cut text;
      digits = digits;
      point = fraction_cut (behind_digits (behind_sign text)) digits.longest;
    }

-- the powers of an exponent, if there is one
abbrev pub powers_in : Option Exponent → Powers
powers_in e = record { up = ups e; down = downs e }

-- of a text without a sign that is digits, the powers are those of its number
powers_signed : (sign : Sign) (digits : List ℕ) → IsExponentDigits digits → powers_of (sign_text sign ++ digits) ≡ Some (powers (is_minus sign) (number digits))
powers_signed sign digits is =
    let same = sign_once (sign_cut (sign_text sign ++ digits)).sign sign (behind_sign (sign_text sign ++ digits)) digits (sign_cut (sign_text sign ++ digits)).first (digits_no_sign digits is.digits_are)
    (sym (sign_cut (sign_text sign ++ digits)).text_is) in
    let minus : has_minus (sign_text sign ++ digits) ≡ is_minus sign = (sign_cut (sign_text sign ++ digits)).negative_is ∙ same.0 in
    ap (λ rest. cond (are_digits rest && nat_le (length rest) 3) (Some (powers (has_minus (sign_text sign ++ digits)) (number rest))) None) same.1
    ∙ ap (λ b. cond b (Some (powers (has_minus (sign_text sign ++ digits)) (number digits))) None) (and_from _ _ (digits_pass digits is.digits_are is.some) (le-leb (length digits) 3 is.few))
    ∙ ap (λ b. Some (powers b (number digits))) minus

-- the powers of an exponent's magnitude with its sign are those of the exponent
powers_are : (e : Exponent) → powers (is_minus e.sign) (number e.digits) ≡ powers_in (Some e)
powers_are e = elim (cases_Bool (is_minus e.sign)) [ inl holds ↦ rw holds refl | inr other ↦ rw other refl ]

-- a mark is at the front of an exponent
marked : (capital : Bool) → ((mark capital == 101) || (mark capital == 69)) ≡ true
marked true = refl
marked false = refl

-- the text of an exponent, or of none, is read as its powers
exponent_read : (e : Option Exponent) → IsExponent e → exponent_in (exponent_text e) ≡ Some (powers_in e)
exponent_read None is = refl
exponent_read (Some e) is =
    ap (λ b. cond b (powers_of (sign_text e.sign ++ e.digits)) None) (marked e.capital) ∙ powers_signed e.sign e.digits is ∙ ap Some (powers_are e)

-- a text that is read as powers is an exponent, or empty, with these
pub record IsExponentWith (text : List ℕ) (p : Powers) : Type 0 where
  pub exponent : Option Exponent
  pub form : IsExponent exponent
  pub text_is : text ≡ exponent_text exponent
  pub powers_are : p ≡ powers_in exponent

-- behind a mark, what is read as powers is an exponent with these
exponent_behind : (capital : Bool) (bs : List ℕ) → (powers_of bs ≡ None) ⊎ ((p : Powers) × (powers_of bs ≡ Some p) × IsExponentWith (mark capital ∷ bs) p)
exponent_behind capital bs = elim (cases_Bool (are_digits (behind_sign bs) && nat_le (length (behind_sign bs)) 3)) [
  | inr other ↦ inl (ap (λ b. cond b (Some (powers (has_minus bs) (number (behind_sign bs)))) None) other)
  | inl holds ↦
      let parts = and_parts (are_digits (behind_sign bs)) (nat_le (length (behind_sign bs)) 3) holds in
      let digits = passes_digits (behind_sign bs) parts.0 in
      let cut = sign_cut bs in
      let e : Exponent = record { capital = capital; sign = cut.sign; digits = behind_sign bs } in
      inr (
        powers (has_minus bs) (number (behind_sign bs)),
        ap (λ b. cond b (Some (powers (has_minus bs) (number (behind_sign bs)))) None) holds,
        record {
          exponent = Some e;
          form = record { digits_are = digits.0; some = digits.1; few = leb-true (length (behind_sign bs)) 3 parts.1 };
          text_is = ap (λ xs. mark capital ∷ xs) cut.text_is;
          powers_are = ap (λ b. powers b (number (behind_sign bs))) cut.negative_is ∙ powers_are e;
        },
      )
]

-- a text is read as no powers, or is an exponent, or empty, with these
exponent_or_none : (text : List ℕ) → (exponent_in text ≡ None) ⊎ ((p : Powers) × (exponent_in text ≡ Some p) × IsExponentWith text p)
exponent_or_none [] = inr (powers_in None, refl, record { exponent = None; form = tt; text_is = refl; powers_are = refl })
exponent_or_none (b ∷ bs) = elim (cases_eq b 101) [
  | inl small ↦ subst (λ x. (exponent_in (x ∷ bs) ≡ None) ⊎ ((p : Powers) × (exponent_in (x ∷ bs) ≡ Some p) × IsExponentWith (x ∷ bs) p)) (sym small) (exponent_behind false bs)
  | inr no_small ↦ elim (cases_eq b 69) [
    | inl large ↦ subst (λ x. (exponent_in (x ∷ bs) ≡ None) ⊎ ((p : Powers) × (exponent_in (x ∷ bs) ≡ Some p) × IsExponentWith (x ∷ bs) p)) (sym large) (exponent_behind true bs)
    | inr no_large ↦ inl (rw (ne_eqb b 101 no_small, ne_eqb b 69 no_large) refl)
  ]
]

module _ (negative : Bool) (digits : List ℕ) (places : ℕ) (p : Powers) where
  -- the number without its sign, times 10^24 and rounded to a whole number, without the zeros at its end
  abbrev placed : Placed
  placed = stripped (half_up (number digits * 10 ^ p.up * 10 ^ 24) (10 ^ (places + p.down))) 24

  -- this is the number, rounded to 24 places
  placed_is : IsRounded (record { n = signed negative (number digits * 10 ^ p.up); k = places + p.down }) 24 (signed negative placed.digits) placed.places
  placed_is =
      rounded_from negative (number digits * 10 ^ p.up) (places + p.down) 24 (half_up (number digits * 10 ^ p.up * 10 ^ 24) (10 ^ (places + p.down))) placed.digits placed.places
      (half_up_rounds (number digits * 10 ^ p.up * 10 ^ 24) (10 ^ (places + p.down)) (ten_pow_pos (places + p.down)))
      (stripped_is (half_up (number digits * 10 ^ p.up * 10 ^ 24) (10 ^ (places + p.down))) 24)

-- the facts of a decimal make the test `is_decimal` pass
decimal_passes : (d : Decimal) → is_decimal d.digits d.scale ≡ true
decimal_passes d =
    and_from _ _ (le-leb d.scale 24 d.has_few_places) (and_from _ _ (le-leb (unsigned_abs d.digits) (10 ^ 13 * 10 ^ d.scale) d.is_in_range)
    (by_scale d.scale (unsigned_abs d.digits) d.is_canonical)) where
      -- no place more than the value needs
      by_scale : (s n : ℕ) → (0 < s → n % 10 ≢ 0) → ((s == 0) || not (n % 10 == 0)) ≡ true
      by_scale s n h = elim (cases_eq s 0) [
        | inl none ↦ rw (eq-eqb s 0 none) refl
        | inr some ↦ rw (ne_eqb s 0 some, ne_eqb (n % 10) 0 (h (omega (arith, some)))) refl
      ]

-- where the test has a result, `decimal_if` gives a decimal with these digits and this scale, or none
decimal_if_is : (m : ℤ) (s : ℕ) (test : Bool) (is : is_decimal m s ≡ test) → ((test ≡ false) × (decimal_if m s test is ≡ None)) ⊎ ((d : Decimal) × (decimal_if m s test is ≡ Some d) × (d.digits ≡ m) × (d.scale ≡ s))
decimal_if_is m s true is = inr (decimal m s is, refl, refl, refl)
decimal_if_is m s false is = inl (refl, refl)

-- the value of these digits, of which the last `places` are behind the point
abbrev value_of : (negative : Bool) (digits : List ℕ) (places up down : ℕ) → Fraction
value_of negative digits places up down = record { n = signed negative (number digits * 10 ^ up); k = places + down }

module _ (text : List ℕ) where
  -- how the text is cut
  abbrev c : Cut text
  c = cut_of text

  -- a text that spells a decimal is read as this
  decimal_read : (d : Decimal) → SpellsDecimal text d → decimal_in text ≡ Some d
  unfolding cut_of
  decimal_read d is =
      let p = is.1.0 in
      let n = is.1.1 in
      let same = same_parts text c p n is.1.2 in
      let exponent : exponent_in c.rest ≡ Some (powers_in p.exponent) = ap exponent_in same.rest_is ∙ exponent_read p.exponent n.exponent in
      let some : 0 < length c.whole + length c.fraction =
      subst (λ w. 0 < length w + length c.fraction) (sym same.whole_is) (subst (λ f. 0 < length p.whole + length f) (sym same.fraction_is) n.some) in
      let whole : decimal_in text ≡ rounded_decimal c.negative (c.whole ++ c.fraction) (length c.fraction) (Some (powers_in p.exponent)) =
      ap (decimal_of c.negative c.whole c.fraction) exponent
      ∙ ap (λ b. cond b (rounded_decimal c.negative (c.whole ++ c.fraction) (length c.fraction) (Some (powers_in p.exponent))) None) (lt-ltb 0 (length c.whole + length c.fraction) some) in
      let parts : rounded_decimal c.negative (c.whole ++ c.fraction) (length c.fraction) (Some (powers_in p.exponent))
      ≡ rounded_decimal (is_minus p.sign) (p.whole ++ fraction_digits p.fraction) (length (fraction_digits p.fraction)) (Some (powers_in p.exponent)) =
      ap (λ b. rounded_decimal b (c.whole ++ c.fraction) (length c.fraction) (Some (powers_in p.exponent))) same.sign
      ∙ ap (λ w. rounded_decimal (is_minus p.sign) (w ++ c.fraction) (length c.fraction) (Some (powers_in p.exponent))) same.whole_is
      ∙ ap (λ f. rounded_decimal (is_minus p.sign) (p.whole ++ f) (length f) (Some (powers_in p.exponent))) same.fraction_is in
      whole ∙ parts ∙ rounded_to_it (is_minus p.sign) (p.whole ++ fraction_digits p.fraction) (length (fraction_digits p.fraction)) (powers_in p.exponent) d
      (subst (λ q. IsRounded q 24 d.digits d.scale) is.1.3 is.2)
    where
      -- a number that rounds to a decimal gives it
      rounded_to_it : (negative : Bool) (digits : List ℕ) (places : ℕ) (p : Powers) (d : Decimal)
          → IsRounded (record { n = signed negative (number digits * 10 ^ p.up); k = places + p.down }) 24 d.digits d.scale
          → rounded_decimal negative digits places (Some p) ≡ Some d
      rounded_to_it negative digits places p d is =
          let z = placed negative digits places p in
          let m = signed negative z.digits in
          let one = rounds_to_one _ 24 m z.places d.digits d.scale (placed_is negative digits places p) is in
          let passes : is_decimal m z.places ≡ true = ap (λ x. is_decimal x z.places) one.0 ∙ ap (is_decimal d.digits) one.1 ∙ decimal_passes d in
          elim (decimal_if_is m z.places (is_decimal m z.places) refl) [
            | inl none ↦ absurd (false≢true (sym none.0 ∙ passes))
            | inr found ↦ found.1 ∙ ap Some (same_decimal found.0 d (found.2 ∙ one.0) (found.3 ∙ one.1))
          ]

  -- a text is read as no decimal, or as one that it spells
  decimal_or_none : (decimal_in text ≡ None) ⊎ ((d : Decimal) × (decimal_in text ≡ Some d) × SpellsDecimal text d)
  unfolding cut_of
  decimal_or_none = elim (cases_Bool (nat_lt 0 (length c.whole + length c.fraction))) [
    | inr other ↦ inl (ap (λ b. cond b (rounded_decimal c.negative (c.whole ++ c.fraction) (length c.fraction) (exponent_in c.rest)) None) other)
    | inl holds ↦
        let some = ap (λ b. cond b (rounded_decimal c.negative (c.whole ++ c.fraction) (length c.fraction) (exponent_in c.rest)) None) holds in
        elim (exponent_or_none c.rest) [
          | inl none ↦ inl (some ∙ ap (rounded_decimal c.negative (c.whole ++ c.fraction) (length c.fraction)) none)
          | inr x ↦ with_exponent some (ltb-true 0 (length c.whole + length c.fraction) holds) x.0 x.1 x.2
        ]
  ] where
    -- with an exponent that reads so, or none
    with_exponent : decimal_in text ≡ rounded_decimal c.negative (c.whole ++ c.fraction) (length c.fraction) (exponent_in c.rest) → 0 < length c.whole + length c.fraction
        → (p : Powers) → exponent_in c.rest ≡ Some p → IsExponentWith c.rest p
        → (decimal_in text ≡ None) ⊎ ((d : Decimal) × (decimal_in text ≡ Some d) × SpellsDecimal text d)
    with_exponent whole some p reads x =
        let digits = c.whole ++ c.fraction in
        let places = length c.fraction in
        let z = placed c.negative digits places p in
        let m = signed c.negative z.digits in
        let so : decimal_in text ≡ decimal_if m z.places (is_decimal m z.places) refl = whole ∙ ap (rounded_decimal c.negative digits places) reads in
        let r = cut_is_numeral text c (numeral_of c (ups x.exponent) (downs x.exponent)) (refl, refl, refl) some (record { exponent = x.exponent; form = x.form; text_is = x.text_is; up_is = refl; down_is = refl }) in
        elim (decimal_if_is m z.places (is_decimal m z.places) refl) [
          | inl none ↦ inl (so ∙ none.1)
          | inr found ↦ inr (found.0, so ∙ found.1, spelled r (placed_is c.negative digits places p) found.0 found.2 found.3)
        ] where
          -- so the text spells the decimal
          spelled : (r : ReadsNumeral text (numeral_of c (ups x.exponent) (downs x.exponent)))
              → IsRounded (record { n = signed c.negative (number (c.whole ++ c.fraction) * 10 ^ p.up); k = length c.fraction + p.down }) 24
              (signed c.negative (placed c.negative (c.whole ++ c.fraction) (length c.fraction) p).digits) (placed c.negative (c.whole ++ c.fraction) (length c.fraction) p).places
              → (d : Decimal) → d.digits ≡ signed c.negative (placed c.negative (c.whole ++ c.fraction) (length c.fraction) p).digits
              → d.scale ≡ (placed c.negative (c.whole ++ c.fraction) (length c.fraction) p).places → SpellsDecimal text d
          spelled r rounded d m s =
              let q = value_of c.negative (c.whole ++ c.fraction) (length c.fraction) p.up p.down in
              let minus = is_minus r.parts.sign in
              let named : q ≡ parts_value r.parts =
              ap (λ b. value_of b (c.whole ++ c.fraction) (length c.fraction) p.up p.down) r.negative_is
              ∙ ap (λ w. value_of minus (w ++ c.fraction) (length c.fraction) p.up p.down) r.whole_is
              ∙ ap (λ f. value_of minus (r.parts.whole ++ f) (length f) p.up p.down) r.fraction_is
              ∙ ap (λ u. value_of minus (r.parts.whole ++ fraction_digits r.parts.fraction) (length (fraction_digits r.parts.fraction)) u p.down) (ap (λ (y : Powers). y.up) x.powers_are ∙ r.up_is)
              ∙ ap (λ v. value_of minus (r.parts.whole ++ fraction_digits r.parts.fraction) (length (fraction_digits r.parts.fraction)) (ups r.parts.exponent) v) (ap (λ (y : Powers). y.down) x.powers_are ∙ r.down_is) in
              (q, (r.parts, r.form, r.text_is, named), subst (λ x. IsRounded q 24 x d.scale) (sym m) (subst (λ y. IsRounded q 24 (signed c.negative (placed c.negative (c.whole ++ c.fraction) (length c.fraction) p).digits) y) (sym s) rounded))

-- Bytes.

-- a byte is read as it is written
byte_read : (item : List ℕ) (n : ℕ) → IsByte item n → byte_in item ≡ Some n
byte_read item n is =
    ap byte_in is.text_is ∙ ap (λ h. byte_of h (hex_digit_value is.b)) is.high_is ∙ ap (byte_of (Some is.high)) is.low_is ∙ ap Some (sym is.value)

-- two bytes between single quotes are read as no byte, or as the one that they write
quoted_byte_or_none : (a b : ℕ) (high low : Option ℕ) → hex_digit_value a ≡ high → hex_digit_value b ≡ low
    → (byte_of high low ≡ None) ⊎ ((n : ℕ) × (byte_of high low ≡ Some n) × IsByte (39 ∷ a ∷ b ∷ 39 ∷ []) n)
quoted_byte_or_none a b (Some high) (Some low) h l = inr (high * 16 + low, refl, record { a = a; b = b; high = high; low = low; text_is = refl; high_is = h; low_is = l; value = refl })
quoted_byte_or_none a b (Some high) None h l = inl refl
quoted_byte_or_none a b None (Some low) h l = inl refl
quoted_byte_or_none a b None None h l = inl refl

-- an item is read as no byte, or as the one that it writes
byte_or_none : (item : List ℕ) → (byte_in item ≡ None) ⊎ ((n : ℕ) × (byte_in item ≡ Some n) × IsByte item n)
byte_or_none [] = inl refl
byte_or_none (p ∷ []) = inl refl
byte_or_none (p ∷ a ∷ []) = inl refl
byte_or_none (p ∷ a ∷ b ∷ []) = inl refl
byte_or_none (p ∷ a ∷ b ∷ q ∷ r ∷ rest) = inl refl
byte_or_none (p ∷ a ∷ b ∷ q ∷ []) = elim (cases_eq p 39) [
  | inr other ↦ inl (ap (λ t. cond (t && (q == 39)) (byte_of (hex_digit_value a) (hex_digit_value b)) None) (ne_eqb p 39 other))
  | inl first ↦ elim (cases_eq q 39) [
    | inr other ↦ inl (ap (λ t. cond t (byte_of (hex_digit_value a) (hex_digit_value b)) None) (and_false (p == 39) (ne_eqb q 39 other)))
    | inl last ↦
        subst (λ x. (byte_in (x ∷ a ∷ b ∷ q ∷ []) ≡ None) ⊎ ((n : ℕ) × (byte_in (x ∷ a ∷ b ∷ q ∷ []) ≡ Some n) × IsByte (x ∷ a ∷ b ∷ q ∷ []) n)) (sym first)
        (subst (λ x. (byte_in (39 ∷ a ∷ b ∷ x ∷ []) ≡ None) ⊎ ((n : ℕ) × (byte_in (39 ∷ a ∷ b ∷ x ∷ []) ≡ Some n) × IsByte (39 ∷ a ∷ b ∷ x ∷ []) n)) (sym last)
        (quoted_byte_or_none a b (hex_digit_value a) (hex_digit_value b) refl refl))
  ]
] where
  -- a test and one that fails fail together
  and_false : (x : Bool) {y : Bool} → y ≡ false → (x && y) ≡ false
  and_false true e = e
  and_false false e = refl

-- Strings.

-- bytes of a string, and then a double quote, are read as these bytes
quote_read : (bytes : List ℕ) → AreStringBytes bytes → before_quote (bytes ++ 34 ∷ []) ≡ Some bytes
quote_read [] h = refl
quote_read (b ∷ bs) h = rw (ne_eqb b 34 h.0.0, ne_eqb b 13 h.0.1, ne_eqb b 10 h.0.2) (ap (option_map (λ rest. b ∷ rest)) (quote_read bs h.1))

-- a text is bytes of a string, and then a double quote
pub record EndsInQuote (text bytes : List ℕ) : Type 0 where
  pub text_is : text ≡ bytes ++ 34 ∷ []
  pub plain : AreStringBytes bytes

-- behind a double quote is nothing more
at_quote : (bs : List ℕ) → (before_quote (34 ∷ bs) ≡ None) ⊎ ((bytes : List ℕ) × (before_quote (34 ∷ bs) ≡ Some bytes) × EndsInQuote (34 ∷ bs) bytes)
at_quote [] = inr ([], refl, record { text_is = refl; plain = tt })
at_quote (b ∷ bs) = inl refl

-- a text is read as no bytes before a double quote, or as those that it has
quote_or_none : (text : List ℕ) → (before_quote text ≡ None) ⊎ ((bytes : List ℕ) × (before_quote text ≡ Some bytes) × EndsInQuote text bytes)
quote_or_none [] = inl refl
quote_or_none (b ∷ bs) = elim (cases_eq b 34) [
  | inl quote ↦ subst (λ x. (before_quote (x ∷ bs) ≡ None) ⊎ ((bytes : List ℕ) × (before_quote (x ∷ bs) ≡ Some bytes) × EndsInQuote (x ∷ bs) bytes)) (sym quote) (at_quote bs)
  | inr other ↦ elim (cases_Bool ((b == 13) || (b == 10))) [
    | inl ends ↦ inl (rw (ne_eqb b 34 other, ends) refl)
    | inr plain ↦ elim (quote_or_none bs) [
      | inl none ↦ inl (rw (ne_eqb b 34 other, plain) (ap (option_map (λ rest. b ∷ rest)) none))
      | inr f ↦
          let parts = or_parts (b == 13) (b == 10) plain in
          inr (
            b ∷ f.0,
            rw (ne_eqb b 34 other, plain) (ap (option_map (λ rest. b ∷ rest)) f.1),
            record { text_is = ap (λ xs. b ∷ xs) f.2.text_is; plain = ((other, eqb-false b 13 parts.0, eqb-false b 10 parts.1), f.2.plain) },
          )
    ]
  ]
]

-- an item that is a string of at most 64 bytes is read as these
text_read : (item bytes : List ℕ) → IsTextItem item bytes → text_in item ≡ Some bytes
text_read item bytes is =
    ap text_in is.string.item_is ∙ ap short_text (quote_read bytes is.string.plain) ∙ ap (λ b. cond b (Some bytes) None) (le-leb (length bytes) 64 is.few)

-- behind a double quote an item is read as no string, or as the one that it is
behind_quote : (bs : List ℕ) → (text_in (34 ∷ bs) ≡ None) ⊎ ((bytes : List ℕ) × (text_in (34 ∷ bs) ≡ Some bytes) × IsTextItem (34 ∷ bs) bytes)
behind_quote bs = elim (quote_or_none bs) [
  | inl none ↦ inl (ap short_text none)
  | inr f ↦ elim (cases_Bool (nat_le (length f.0) 64)) [
    | inr long ↦ inl (ap short_text f.1 ∙ ap (λ b. cond b (Some f.0) None) long)
    | inl few ↦ inr (
      f.0,
      ap short_text f.1 ∙ ap (λ b. cond b (Some f.0) None) few,
      record { string = record { item_is = ap (λ xs. 34 ∷ xs) f.2.text_is; plain = f.2.plain }; few = leb-true (length f.0) 64 few },
    )
  ]
]

-- an item is read as no string, or as the one that it is
text_or_none : (item : List ℕ) → (text_in item ≡ None) ⊎ ((bytes : List ℕ) × (text_in item ≡ Some bytes) × IsTextItem item bytes)
text_or_none [] = inl refl
text_or_none (b ∷ bs) = elim (cases_eq b 34) [
  | inl quote ↦ subst (λ x. (text_in (x ∷ bs) ≡ None) ⊎ ((bytes : List ℕ) × (text_in (x ∷ bs) ≡ Some bytes) × IsTextItem (x ∷ bs) bytes)) (sym quote) (behind_quote bs)
  | inr other ↦ inl (ap (λ t. cond t (short_text (before_quote bs)) None) (ne_eqb b 34 other))
]

-- Values.

-- an item is read as the value that it is
value_read : (v : Value) (item : List ℕ) → IsItem item v → value_in (kind_of v) item ≡ Some v
value_read (value.Double d) item is = ap (option_map (λ d. value.Double d)) (decimal_read item d is)
value_read (value.Long z) item is =
    ap (λ o. option_map (λ z. value.Long z) (between 2147483648 2147483647 o)) (whole_read item z is.0) ∙ ap (λ b. option_map (λ z. value.Long z) (whole_if b z)) (between_passes 2147483648 2147483647 z is.1)
value_read (value.Short z) item is =
    ap (λ o. option_map (λ z. value.Short z) (between 32768 32767 o)) (whole_read item z is.0) ∙ ap (λ b. option_map (λ z. value.Short z) (whole_if b z)) (between_passes 32768 32767 z is.1)
value_read (value.Byte n) item is = ap (option_map (λ n. value.Byte n)) (byte_read item n is)
value_read (value.Bool false) item is = ap (λ o. option_map (λ b. value.Bool b) (boolean_of o)) (whole_read item (pos 0) is)
value_read (value.Bool true) item is = ap (λ o. option_map (λ b. value.Bool b) (boolean_of o)) (whole_read item (pos 1) is)
value_read (value.Text bytes) item is = ap (option_map (λ bytes. value.Text bytes)) (text_read item bytes is)

-- the item is this value, which is of the kind
pub record IsValueOf (k : Kind) (item : List ℕ) (v : Value) : Type 0 where
  pub of_kind : kind_of v ≡ k
  pub is_item : IsItem item v

-- a whole number that was read is a value, if it is in its range, and else there is none
whole_between : (below above : ℕ) (item : List ℕ)
    → (between below above (whole_in item) ≡ None) ⊎ ((z : ℤ) × (between below above (whole_in item) ≡ Some z) × NamesWhole item z × IsBetween below above z)
whole_between below above item = elim (whole_or_none item) [
  | inl none ↦ inl (ap (between below above) none)
  | inr f ↦ elim (cases_Bool (is_between below above f.0)) [
    | inr far ↦ inl (ap (between below above) f.1 ∙ ap (λ b. whole_if b f.0) far)
    | inl near ↦ inr (f.0, ap (between below above) f.1 ∙ ap (λ b. whole_if b f.0) near, f.2, passes_between below above f.0 near)
  ]
]

-- a whole number is a truth value's, or of none
boolean_or_none : (item : List ℕ) (z : ℤ) → NamesWhole item z → (boolean_of (Some z) ≡ None) ⊎ ((b : Bool) × (boolean_of (Some z) ≡ Some b) × NamesBoolean item b)
boolean_or_none item (pos zero) is = inr (false, refl, is)
boolean_or_none item (pos (suc zero)) is = inr (true, refl, is)
boolean_or_none item (pos (suc (suc n))) is = inl refl
boolean_or_none item (negsuc n) is = inl refl

-- an item is read as no value of a kind, or as one that it is
pub value_or_none : (k : Kind) (item : List ℕ) → (value_in k item ≡ None) ⊎ ((v : Value) × (value_in k item ≡ Some v) × IsValueOf k item v)
value_or_none kind.Double item = elim (decimal_or_none item) [
  | inl none ↦ inl (ap (option_map (λ d. value.Double d)) none)
  | inr f ↦ inr (value.Double f.0, ap (option_map (λ d. value.Double d)) f.1, record { of_kind = refl; is_item = f.2 })
]
value_or_none kind.Long item = elim (whole_between 2147483648 2147483647 item) [
  | inl none ↦ inl (ap (option_map (λ z. value.Long z)) none)
  | inr f ↦ inr (value.Long f.0, ap (option_map (λ z. value.Long z)) f.1, record { of_kind = refl; is_item = (f.2, f.3) })
]
value_or_none kind.Short item = elim (whole_between 32768 32767 item) [
  | inl none ↦ inl (ap (option_map (λ z. value.Short z)) none)
  | inr f ↦ inr (value.Short f.0, ap (option_map (λ z. value.Short z)) f.1, record { of_kind = refl; is_item = (f.2, f.3) })
]
value_or_none kind.Byte item = elim (byte_or_none item) [
  | inl none ↦ inl (ap (option_map (λ n. value.Byte n)) none)
  | inr f ↦ inr (value.Byte f.0, ap (option_map (λ n. value.Byte n)) f.1, record { of_kind = refl; is_item = f.2 })
]
value_or_none kind.Bool item = elim (whole_or_none item) [
  | inl none ↦ inl (ap (λ o. option_map (λ b. value.Bool b) (boolean_of o)) none)
  | inr f ↦ elim (boolean_or_none item f.0 f.2) [
    | inl none ↦ inl (ap (λ o. option_map (λ b. value.Bool b) (boolean_of o)) f.1 ∙ ap (option_map (λ b. value.Bool b)) none)
    | inr g ↦ inr (value.Bool g.0, ap (λ o. option_map (λ b. value.Bool b) (boolean_of o)) f.1 ∙ ap (option_map (λ b. value.Bool b)) g.1, record { of_kind = refl; is_item = g.2 })
  ]
]
value_or_none kind.Text item = elim (text_or_none item) [
  | inl none ↦ inl (ap (option_map (λ bytes. value.Text bytes)) none)
  | inr f ↦ inr (value.Text f.0, ap (option_map (λ bytes. value.Text bytes)) f.1, record { of_kind = refl; is_item = f.2 })
]

-- an item with a fault is read as no value
faulty_is_none : (k : Kind) (item : List ℕ) (e : ValueFault) → IsItemFault k item e → value_in k item ≡ None
faulty_is_none k item e fault = elim (value_or_none k item) [
  | inl none ↦ none
  | inr f ↦ absurd (item_has_no_fault f.0 item e f.2.is_item (subst (λ x. IsItemFault x item e) (sym f.2.of_kind) fault))
]

-- Items.

-- items that begin as these values are read as these
items_read : (ks : List Kind) (items : List (List ℕ)) (vs : List Value) → BeginAs ks items vs → items_as ks items ≡ Some vs
items_read [] items [] h = refl
items_read [] items (v ∷ vs) h = absurd h
items_read (k ∷ ks) items [] h = absurd h
items_read (k ∷ ks) [] (v ∷ vs) h = absurd h
items_read (k ∷ ks) (item ∷ items) (v ∷ vs) h =
    ap (λ o. values_with o (items_as ks items)) (subst (λ x. value_in x item ≡ Some v) h.0 (value_read v item h.1)) ∙ ap (values_with (Some v)) (items_read ks items vs h.2)

-- items with a fault aren't read
items_fault : (ks : List Kind) (items : List (List ℕ)) (e : ValueFault) → FirstFault ks items e → items_as ks items ≡ None
items_fault [] items e h = absurd h
items_fault (k ∷ ks) [] e h = absurd h
items_fault (k ∷ ks) (item ∷ items) e (inl fault) = ap (λ o. values_with o (items_as ks items)) (faulty_is_none k item e fault)
items_fault (k ∷ ks) (item ∷ items) e (inr (v, of_kind, is, more)) =
    ap (λ o. values_with o (items_as ks items)) (subst (λ x. value_in x item ≡ Some v) of_kind (value_read v item is)) ∙ ap (values_with (Some v)) (items_fault ks items e more)

-- a number of items that suits passes the test
suits_passes : (more : Bool) (items kinds : ℕ) → SuitsCount more items kinds → suits_count more items kinds ≡ true
suits_passes true items kinds h = le-leb kinds items h
suits_passes false items kinds h = eq-eqb items kinds h

-- one that doesn't suit fails it
fails_count : (more : Bool) (items kinds : ℕ) → (SuitsCount more items kinds → ⊥) → suits_count more items kinds ≡ false
fails_count true items kinds none = elim (cases_Bool (nat_le kinds items)) [ inl holds ↦ absurd (none (leb-true kinds items holds)) | inr other ↦ other ]
fails_count false items kinds none = ne_eqb items kinds none

-- parameters that have values of the kinds are read as these
pub of_kinds_read : (kinds : KindsSeen) (params : List ℕ) (vs : List Value) → AreOfKinds kinds params vs → values_read kinds params ≡ Some vs
of_kinds_read kinds params vs is =
    ap (values_of_items kinds) (few_are_split params is.items is.split is.few)
    ∙ ap (λ b. cond b (items_as kinds.kinds is.items) None) (suits_passes kinds.more (length is.items) (length kinds.kinds) is.have.count)
    ∙ items_read kinds.kinds is.items vs is.have.read

-- items that don't have values of the kinds aren't read
misfit_not_read : (kinds : KindsSeen) (items : List (List ℕ)) (e : ValueFault) → IsItemsMisfit kinds items e → values_of_items kinds (Some items) ≡ None
misfit_not_read kinds items e (wrong_count same none) =
    ap (λ b. cond b (items_as kinds.kinds items) None) (fails_count kinds.more (length items) (length kinds.kinds) none)
misfit_not_read kinds items e (faulty_item count first) =
    ap (λ b. cond b (items_as kinds.kinds items) None) (suits_passes kinds.more (length items) (length kinds.kinds) count) ∙ items_fault kinds.kinds items e first

-- parameters with a fault aren't read
pub fault_not_read : (kinds : KindsSeen) (params : List ℕ) (e : ValueFault) → IsKindsFault kinds params e → values_read kinds params ≡ None
fault_not_read kinds params e (open_quote same odd) = ap (values_of_items kinds) (open_is_none params odd)
fault_not_read kinds params e (too_many same many) = ap (values_of_items kinds) (many_are_none params many.0 many.1 many.2)
fault_not_read kinds params e (faulty_items items split few misfit) = ap (values_of_items kinds) (few_are_split params items split few) ∙ misfit_not_read kinds items e misfit

-- kinds are the same if their lists are, and if further items may follow both or neither
pub same_kinds : (k j : KindsSeen) → k.kinds ≡ j.kinds → k.more ≡ j.more → k ≡ j
same_kinds k j kinds more =
    ap (λ (x : List Kind). let new : KindsSeen = record { kinds = x; more = k.more } in new) kinds ∙ ap (λ (b : Bool). let new : KindsSeen = record { kinds = j.kinds; more = b } in new) more

-- the law: parameters are read as values of the kinds exactly if the tables of kinds say so
pub values_are_read : ValuesAreRead
values_are_read = record { values = of_kinds_read; fault = fault_not_read }
