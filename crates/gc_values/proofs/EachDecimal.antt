-- Each text spells a decimal, or a number out of its range, or none. `IsDecided` says of something that it holds, or that it
-- doesn't.
use Rattle.gc_values.proofs.Common.{◌≡◌, ℕ, ◌+◌, ◌*◌, ◌^◌, ◌<◌, Bool, true, false, List, [], ◌∷◌, ◌++◌, length, ℤ, unsigned_abs, Option, Some, None, refl, sym, ap, ◌∙◌, subst, ◌⊎◌, inl, inr, arith, cases_lt, cases_eq, StartsNoDigit, StartsNoSign, CutsSign, CutsFraction, SpellsDecimal, number, signed, half_up, half_up_rounds, is_minus, Exponent, IsExponentDigits, IsExponent, exponent_text, mark, ups, downs, fraction_digits, Parts, IsNumeral, spelling, parts_value, Spells, SpellsBeyond, SpellsNothing, Decimal}
use Rattle.gc_values.proofs.EachWhole.{IsDecided, digits_or_not, digits_cut, sign_cut}
use Rattle.gc_values.proofs.Powers.{ten_pow_pos}
use Rattle.gc_values.proofs.Rounded.{has_form_without_zeros, rounded_from}
use Rattle.gc_values.proofs.Unique.{Cut, same_parts, numeral_of, cut_is_numeral, sign_once, digits_no_sign}

-- each text that begins with no digit is cut into a fraction, or none, and a rest
fraction_cut : (text : List ℕ) → StartsNoDigit text → (run : List ℕ) × (rest : List ℕ) × CutsFraction text run rest
fraction_cut [] none = ([], [], record { fraction = None; text_is = refl; run_is = refl; digits = tt; no_point = λ _. tt; longest = tt })
fraction_cut (b ∷ bs) none = elim (cases_eq b 46) [
  | inr other ↦ ([], b ∷ bs, record { fraction = None; text_is = refl; run_is = refl; digits = tt; no_point = λ _. other; longest = none })
  | inl point ↦
      let cut = digits_cut bs in (
        cut.0,
        cut.1,
        record {
          fraction = Some cut.0;
          text_is = ap (λ x. x ∷ bs) point ∙ ap (λ xs. 46 ∷ xs) cut.2.text_is;
          run_is = refl;
          digits = cut.2.digits;
          no_point = λ e. absurd (cc);
          longest = cut.2.longest;
        },
      )
]

-- a text is one to three digits, or isn't
exponent_digits_or_not : (text : List ℕ) → IsDecided (IsExponentDigits text)
exponent_digits_or_not [] = inr (λ s. let some = s.some in omega (arith, some))
exponent_digits_or_not (b ∷ bs) = elim (cases_lt 3 (length (b ∷ bs))) [
  | inl long ↦ inr (λ s. let few = s.few in omega (arith, long, few))
  | inr few ↦ elim (digits_or_not (b ∷ bs)) [
    | inl digits ↦ inl (record { digits_are = digits; some = omega arith; few = few })
    | inr other ↦ inr (λ s. other s.digits_are)
  ]
]

-- the exponent whose text this is; `None` where the text is empty
abbrev ExponentOf : List ℕ → Type 0
ExponentOf text = (e : Option Exponent) × IsExponent e × (text ≡ exponent_text e)

-- if a mark and the bytes bs are the text of an exponent, and bs is cut into a sign and a rest, the rest is the exponent's
-- digits
rest_is_exponent_digits : (capital : Bool) (bs : List ℕ) (negative : Bool) (rest : List ℕ) → CutsSign bs negative rest → (e : Exponent)
    → IsExponentDigits e.digits
    → mark capital ∷ bs ≡ exponent_text (Some e) → rest ≡ e.digits
rest_is_exponent_digits capital bs negative rest cut e short is =
    let behind : bs ≡ Rattle.gc_values.specs.Spelling.sign_text e.sign ++ e.digits = cc in
    let bare : StartsNoSign e.digits = digits_no_sign e.digits short.digits_are in
    (sign_once cut.sign e.sign rest e.digits cut.first bare (sym cut.text_is ∙ behind)).1

-- a text that begins with a mark is an exponent, or isn't
exponent_after_mark : (capital : Bool) (bs : List ℕ) → IsDecided (ExponentOf (mark capital ∷ bs))
exponent_after_mark capital bs =
    let cut = sign_cut bs in
    elim (exponent_digits_or_not cut.1) [
      | inl short ↦ inl (Some (record { capital = capital; sign = cut.2.sign; digits = cut.1 }), short, ap (λ xs. mark capital ∷ xs) cut.2.text_is)
      | inr other ↦ inr (none other)
    ] where
      -- if the bytes after the mark and a sign aren't one to three digits, the text is no exponent
      none : (IsExponentDigits (sign_cut bs).1 → ⊥) → ExponentOf (mark capital ∷ bs) → ⊥
      none other (None, form, is) = absurd (cc)
      none other (Some e, form, is) = let cut = sign_cut bs in other (subst IsExponentDigits (sym (rest_is_exponent_digits capital bs cut.0 cut.1 cut.2 e form is)) form)

-- a text whose first byte is no mark (`e` or `E`) is no exponent (`ExponentOf`)
no_exponent_without_mark : (b : ℕ) (bs : List ℕ) → (b ≡ 101 → ⊥) → (b ≡ 69 → ⊥) → ExponentOf (b ∷ bs) → ⊥
no_exponent_without_mark b bs small large (None, form, is) = absurd (cc)
no_exponent_without_mark b bs small large (Some e, form, is) = by_capital e.capital refl where
  -- whichever of the two marks the exponent has, the text doesn't begin with it
  by_capital : (c : Bool) → e.capital ≡ c → ⊥
  by_capital true same = let first : b ≡ mark e.capital = cc in large (first ∙ ap mark same)
  by_capital false same = let first : b ≡ mark e.capital = cc in small (first ∙ ap mark same)

-- a text is an exponent or empty, or isn't
exponent_or_not : (text : List ℕ) → IsDecided (ExponentOf text)
exponent_or_not [] = inl (None, tt, refl)
exponent_or_not (b ∷ bs) = elim (cases_eq b 101) [
  | inl small ↦ subst (λ x. IsDecided (ExponentOf (x ∷ bs))) (sym small) (exponent_after_mark false bs)
  | inr no_small ↦ elim (cases_eq b 69) [
    | inl large ↦ subst (λ x. IsDecided (ExponentOf (x ∷ bs))) (sym large) (exponent_after_mark true bs)
    | inr no_large ↦ inr (no_exponent_without_mark b bs no_small no_large)
  ]
]

-- the parts of a number whose text this is
abbrev NumeralOf : List ℕ → Type 0
NumeralOf text = (p : Parts) × IsNumeral p × (text ≡ spelling p)

-- each text is cut into a sign, digits, a fraction and a rest, as `Cut` has them
cut_from_left : (text : List ℕ) → Cut text
cut_from_left text =
    let s = sign_cut text in
    let d = digits_cut s.1 in
    let f = fraction_cut d.1 d.2.longest in
    record { negative = s.0; behind_sign = s.1; whole = d.0; behind_whole = d.1; fraction = f.0; rest = f.1; sign = s.2; digits = d.2; point = f.2 }

-- if a text was cut, as `Cut` has it, into at least one digit in all, and a rest that is an exponent or empty, the text is a
-- numeral
numeral_from_cut : (text : List ℕ) (c : Cut text) → 0 < length c.whole + length c.fraction → ExponentOf c.rest → NumeralOf text
numeral_from_cut text c some x =
    let r = cut_is_numeral text c (numeral_of c (ups x.0) (downs x.0)) (refl, refl, refl) some (record { exponent = x.0; form = x.1; text_is = x.2; up_is = refl; down_is = refl }) in
    (r.parts, r.form, r.text_is)

-- a text is a numeral, or isn't
numeral_or_not : (text : List ℕ) → IsDecided (NumeralOf text)
numeral_or_not text =
    let c = cut_from_left text in
    elim (cases_lt 0 (length c.whole + length c.fraction)) [
      | inr empty ↦ inr (λ n. let same = same_parts text c n.0 n.1 n.2 in
          let none = n.1.some in omega (arith, empty, none, ap length same.whole_is, ap length same.fraction_is))
      | inl some ↦ elim (exponent_or_not c.rest) [
        | inl x ↦ inl (numeral_from_cut text c some x)
        | inr none ↦ inr (λ n. none (n.0.exponent, n.1.exponent, (same_parts text c n.0 n.1 n.2).rest_is))
      ]
    ]

-- the digits and the scale of what the text spells
abbrev RoundedOf : List ℕ → Type 0
RoundedOf text = (m : ℤ) × (s : ℕ) × Spells text m s

-- for each number's text there are digits and a scale that it spells: its fraction, rounded to 24 places
rounded_of : (text : List ℕ) → NumeralOf text → RoundedOf text
rounded_of text n =
    let p = n.0 in
    let neg = is_minus p.sign in
    let a = number (p.whole ++ fraction_digits p.fraction) * 10 ^ ups p.exponent in
    let k = length (fraction_digits p.fraction) + downs p.exponent in
    let near = half_up_rounds (a * 10 ^ 24) (10 ^ k) (ten_pow_pos k) in
    let z = has_form_without_zeros (half_up (a * 10 ^ 24) (10 ^ k)) 24 in
    (signed neg z.0, z.1, (parts_value p, (p, n.1, n.2, refl), rounded_from neg a k 24 (half_up (a * 10 ^ 24) (10 ^ k)) z.0 z.1 near z.2))

-- each text spells a decimal, or no number, or one out of range
pub each_decimal : (text : List ℕ) → ((d : Decimal) × SpellsDecimal text d) ⊎ (SpellsNothing text ⊎ SpellsBeyond text)
each_decimal text = elim (numeral_or_not text) [
  | inr none ↦ inr (inl (λ q named. none (named.0, named.1, named.2)))
  | inl n ↦
      let r = rounded_of text n in
      elim (cases_lt (10 ^ 13 * 10 ^ r.1) (unsigned_abs r.0)) [
        | inl far ↦ inr (inr (r.0, r.1, r.2, far))
        | inr near ↦ inl (
          record { digits = r.0; scale = r.1; has_few_places = r.2.2.places; is_in_range = near; is_canonical = r.2.2.canonical },
          r.2,
        )
      ]
]
