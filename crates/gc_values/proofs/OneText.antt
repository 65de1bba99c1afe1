-- One text has the form of a written number and names it. A whole part is the digits before a point, or of a whole number; a
-- fraction part is the digits after the point. `IsWrittenText` says of a text that it is what is written of some m / 10^s that
-- needs all its places and has at most 24.
use Rattle.gc_values.proofs.Common.{◌≡◌, ◌≢◌, ◌↔◌, ℕ, zero, suc, ◌+◌, ◌-◌, ◌*◌, ◌/◌, ◌%◌, ◌^◌, ◌<◌, ◌≤◌, Bool, true, false, cond, get_or, ℤ, pos, negsuc, List, [], ◌∷◌, ◌++◌, length, map, refl, sym, ap, ◌∙◌, subst, inl, inr, arith, lit<, lit≤, pow-suc, pos_of_ne-zero, div-one, mul-pos, cases_order, eqb_tells, same_from_push, div-mul-add, mod-mul-add, same_from_place, digits_of, first_digits_of, SpellsDecimal, decimal_text, IsDigit, AreDigits, number, signed, IsCanonical, Spells, NamesWhole, signed_text, digits_text, whole_text, last_digits, places_text, written, Decimal}
use Rattle.gc_values.specs.WrittenForm.{IsWholePart, IsFractionPart, HasWholeForm, HasDecimalForm, minus_where}
use Rattle.gc_values.proofs.Every.{every_behind}
use Rattle.gc_values.proofs.Kept.{number-append, number-lt}
use Rattle.gc_values.proofs.Powers.{ten_pow_pos, ten_pow_le}
use Rattle.gc_values.proofs.ReadLemmas.{spells_once}
use Rattle.gc_values.proofs.Signs.{unsigned_abs-signed}
use Rattle.gc_values.proofs.WholeLemmas.{one_whole}
use Rattle.gc_values.proofs.WholeText.{signed_reads}
use Rattle.gc_values.proofs.WrittenLemmas.{length-last_digits, mod_pow_last}
use Rattle.gc_values.proofs.WrittenSpells.{writes_whole, AreDigits-last_digits, number-last_digits, is_fraction_text, written_spells}

-- two runs of equally many digits that write one number are the same
pub digits_once : (xs ys : List ℕ) → AreDigits xs → AreDigits ys → length xs ≡ length ys → number xs ≡ number ys → xs ≡ ys
digits_once [] [] dx dy long e = refl
digits_once [] (y ∷ ys) dx dy long e = absurd (omega (arith, long))
digits_once (x ∷ xs) [] dx dy long e = absurd (omega (arith, long))
digits_once (x ∷ xs) (y ∷ ys) dx dy long e =
    let few : length xs ≡ length ys = omega (arith, long) in
    let power : 10 ^ length xs ≡ 10 ^ length ys = ap (λ k. 10 ^ k) few in
    let both = same_from_place (x - 48) (number xs) (y - 48) (number ys) (10 ^ length ys) (subst (λ p. number xs < p) power (number-lt xs dx.1)) (number-lt ys dy.1)
    (ap (λ p. (x - 48) * p + number xs) (sym power) ∙ e) in
    let first : x ≡ y = let h = both.0 in let a = dx.0 in let b = dy.0 in omega (arith, h, a, b) in
    ap (λ d. d ∷ xs) first ∙ ap (λ ds. y ∷ ds) (digits_once xs ys dx.1 dy.1 few both.1)

-- a number r whose first digit, the byte b, isn't 0, and which has k digits after it, is at least 10^k
first_digit_bounds : (b k n r : ℕ) → 48 < b → r ≡ (b - 48) * 10 ^ k + n → 10 ^ k ≤ r
first_digit_bounds b k n r above e =
    let back : b - 48 ≡ (b - 49) + 1 = omega arith in
    omega (arith, e ∙ ap (λ x. x * 10 ^ k + n) back)

-- what a whole part of n digits says of its number: it is below 10^n, and where n is above 1 it is at least 10^(n - 1)
record IsSized (ds : List ℕ) : Type 0 where
  pub some : 0 < length ds
  pub small : number ds < 10 ^ length ds
  pub least : 1 < length ds → 10 ^ (length ds - 1) ≤ number ds

-- each whole part has the size that `IsSized` says
whole_part_is_sized : (ds : List ℕ) → IsWholePart ds → IsSized ds
whole_part_is_sized [] w = let s = w.some in absurd (omega (arith, s))
whole_part_is_sized (b ∷ bs) w = record {
  some = w.some;
  small = number-lt (b ∷ bs) w.are_digits;
  least = λ more. elim (cases_order b 48) [
    | inl zero_first ↦
        let none : bs ≡ [] = w.no_zero_in_front bs (ap (λ d. d ∷ bs) zero_first) in
        let l = ap length none in absurd (omega (arith, more, l))
    | inr other ↦ elim other [
      | inl below ↦ let d = w.are_digits.0 in absurd (omega (arith, d, below))
      | inr above ↦ subst (λ k. 10 ^ k ≤ number (b ∷ bs)) (let e : length bs ≡ length (b ∷ bs) - 1 = omega arith in e) (first_digit_bounds b (length bs) (number bs) (number (b ∷ bs)) above refl)
    ]
  ];
}

-- a shorter whole part doesn't write the same number
shorter_is_smaller : (xs ys : List ℕ) → IsSized xs → IsSized ys → number xs ≡ number ys → length xs < length ys → ⊥
shorter_is_smaller xs ys x y e less =
    let s = x.some in
    let power = ten_pow_le (length xs) (length ys - 1) (omega arith) in
    let l = y.least (omega (arith, s, less)) in
    let h = x.small in
    omega (arith, power, l, h, e)

-- whole parts of one number are the same
pub whole_once : (xs ys : List ℕ) → IsWholePart xs → IsWholePart ys → number xs ≡ number ys → xs ≡ ys
whole_once xs ys x y e = elim (cases_order (length xs) (length ys)) [
  | inl same ↦ digits_once xs ys x.are_digits y.are_digits same e
  | inr other ↦ elim other [
    | inl less ↦ absurd (shorter_is_smaller xs ys (whole_part_is_sized xs x) (whole_part_is_sized ys y) e less)
    | inr more ↦ absurd (shorter_is_smaller ys xs (whole_part_is_sized ys y) (whole_part_is_sized xs x) (sym e) more)
  ]
]

-- values of digits of which the first is above 0, written as bytes, don't begin with '0'
no_zero_first : (ds rest : List ℕ) → 0 < get_or ds 0 0 → map (λ d. 48 + d) ds ≡ 48 ∷ rest → ⊥
no_zero_first [] rest some e = omega (arith, some)
no_zero_first (d ∷ ds) rest some e = let h : 48 + d ≡ 48 = cc in omega (arith, some, h)

-- if '0' alone is a '0' and a rest, the rest is empty
zero_alone : (rest : List ℕ) → 48 ∷ [] ≡ 48 ∷ rest → rest ≡ []
zero_alone [] e = refl
zero_alone (r ∷ rest) e = absurd (let l = ap length e in omega (arith, l))

-- what is written of a whole number n is a whole part
pub whole_part : (n : ℕ) → IsWholePart (whole_text n)
whole_part n =
    let w = writes_whole n in
    record {
      are_digits = w.digits;
      some = w.some;
      no_zero_in_front = λ rest. elim (eqb_tells n 0) [
        | inl none ↦ λ e. zero_alone rest (sym (ap (λ b. cond b (48 ∷ []) (digits_text n)) none.0) ∙ e)
        | inr some ↦ λ e. absurd (no_zero_first (digits_of 10 n) rest (first_digits_of 10 n (lit≤ tt) (pos_of_ne-zero some.1)) (sym (ap (λ b. cond b (48 ∷ []) (digits_text n)) some.0) ∙ e))
      ];
    }

-- a whole part is the text of its number
pub whole_text-number : (ds : List ℕ) → IsWholePart ds → whole_text (number ds) ≡ ds
whole_text-number ds w = whole_once (whole_text (number ds)) ds (whole_part (number ds)) w (sym (writes_whole (number ds)).value)

-- a whole number that is given as a sign and a magnitude, with no minus before zero, is written as the minus, where there is one,
-- and the magnitude
pub signed_text-signed : (negative : Bool) (n : ℕ) → (negative ≡ true → 0 < n)
    → signed_text (signed negative n) ≡ minus_where negative ++ whole_text n
signed_text-signed false n some = refl
signed_text-signed true zero some = let h = some refl in absurd (omega (arith, h))
signed_text-signed true (suc n) some = refl

-- a decimal whose digits are given as a sign and a magnitude, with no minus before zero, is written as the minus, where there is
-- one, and the two parts
pub written-signed : (negative : Bool) (a s : ℕ) → (negative ≡ true → 0 < a)
    → written (signed negative a) s ≡ minus_where negative ++ (whole_text (a / 10 ^ s) ++ (46 ∷ places_text s (a % 10 ^ s)))
written-signed false a s some = refl
written-signed true zero s some = let h = some refl in absurd (omega (arith, h))
written-signed true (suc a) s some = refl

-- a whole number's text has a whole number's form
whole_form : (z : ℤ) → HasWholeForm (signed_text z)
whole_form (pos n) = record { negative = false; digits = whole_text n; text_is = refl; digits_are = whole_part n; no_minus_on_zero = λ e. absurd (cc) }
whole_form (negsuc n) = record {
  negative = true;
  digits = whole_text (suc n);
  text_is = refl;
  digits_are = whole_part (suc n);
  no_minus_on_zero = λ _. let e = (writes_whole (suc n)).value in omega (arith, e);
}

-- a text is the written one of a whole number exactly where the text has a whole number's form and writes that number
pub whole_text_once : (z : ℤ) (text : List ℕ) → (text ≡ signed_text z) ↔ (HasWholeForm text × NamesWhole text z)
whole_text_once z text = (
  λ e. (subst HasWholeForm (sym e) (whole_form z), subst (λ t. NamesWhole t z) (sym e) (signed_reads z)),
  λ h.
      let f = h.0 in
      let n : ℕ = number f.digits in
      let is : text ≡ signed_text (signed f.negative n) =
      f.text_is ∙ ap (λ ds. minus_where f.negative ++ ds) (sym (whole_text-number f.digits f.digits_are)) ∙ sym (signed_text-signed f.negative n f.no_minus_on_zero) in
      let same : signed f.negative n ≡ z = one_whole text (signed f.negative n) z (subst (λ t. NamesWhole t (signed f.negative n)) (sym is) (signed_reads (signed f.negative n))) h.1 in
      is ∙ ap signed_text same,
)

-- the digits before the last one, and the last
record LastSplit (ds : List ℕ) : Type 0 where
  pub front : List ℕ
  pub last : ℕ
  pub ds_are : ds ≡ front ++ last ∷ []

-- digits, if there are any, have a last one
has_last_digit : (ds : List ℕ) → 0 < length ds → LastSplit ds
has_last_digit [] some = absurd (omega (arith, some))
has_last_digit (d ∷ []) some = record { front = []; last = d; ds_are = refl }
has_last_digit (d ∷ e ∷ ds) some = let r = has_last_digit (e ∷ ds) (omega arith) in record { front = d ∷ r.front; last = r.last; ds_are = ap (λ xs. d ∷ xs) r.ds_are }

-- the last digit is the number's remainder by ten
last_digit : (front : List ℕ) (d : ℕ) → IsDigit d → number (front ++ d ∷ []) % 10 ≡ d - 48
last_digit front d h = omega (arith, number-append front (d ∷ []), h)

-- the text is what is written of some m / 10^s that needs all its places and has at most 24
record IsWrittenText (text : List ℕ) : Type 0 where
  pub m : ℤ
  pub s : ℕ
  pub canonical : IsCanonical m s
  pub places : s ≤ 24
  pub text_is : text ≡ written m s

-- a text of a decimal's form is a written one (`IsWrittenText`) where a / 10^s has the text's digits before the point and after
-- it, isn't 0 after a minus, needs all its places, and has at most 24
is_written_text : (text : List ℕ) (f : HasDecimalForm text) (a s : ℕ) → (some : f.negative ≡ true → 0 < a) → (canonical : 0 < s → a % 10 ≢ 0)
    → (places : s ≤ 24) → (front : a / 10 ^ s ≡ number f.whole) → (back : places_text s (a % 10 ^ s) ≡ f.fraction) → IsWrittenText text
is_written_text text f a s some canonical places front back = record {
  m = signed f.negative a;
  s = s;
  canonical = λ more divides. canonical more (ap (λ n. n % 10) (sym (unsigned_abs-signed f.negative a)) ∙ divides);
  places = places;
  text_is = f.text_is
      ∙ ap (λ xs. minus_where f.negative ++ (xs ++ (46 ∷ f.fraction))) (sym (ap whole_text front ∙ whole_text-number f.whole f.whole_is))
      ∙ ap (λ xs. minus_where f.negative ++ (whole_text (a / 10 ^ s) ++ (46 ∷ xs))) (sym back)
      ∙ sym (written-signed f.negative a s some);
}

-- a text of a decimal's form with a lone 0 after the point is a written one (`IsWrittenText`)
whole_is_written : (text : List ℕ) (f : HasDecimalForm text) → f.fraction ≡ 48 ∷ [] → IsWrittenText text
whole_is_written text f none =
    let all : number (f.whole ++ f.fraction) ≡ number f.whole * 10 = ap (λ ds. number (f.whole ++ ds)) none ∙ omega (arith, number-append f.whole (48 ∷ [])) in
    is_written_text text f (number f.whole) 0 (λ e. let h = f.no_minus_on_zero e in omega (arith, h, all)) (λ h. absurd (omega (arith, h))) (lit≤ tt) (div-one (number f.whole)) (sym none)

-- s digits, at least one, that write n are what is written after the point for n at s places
places_text-number : (s n : ℕ) (ds : List ℕ) → AreDigits ds → length ds ≡ s → number ds ≡ n → 0 < s → places_text s n ≡ ds
places_text-number s n ds digits long is some = elim (eqb_tells s 0) [
  | inl none ↦ let e = none.1 in absurd (omega (arith, e, some))
  | inr more ↦
      ap (λ b. cond b (48 ∷ []) (last_digits s n)) more.0
      ∙ digits_once (last_digits s n) ds (AreDigits-last_digits s n) digits (length-last_digits s n ∙ sym long)
      (number-last_digits s n (subst (λ x. x < 10 ^ s) is (subst (λ k. number ds < 10 ^ k) long (number-lt ds digits))) ∙ sym is)
]

-- a text of a decimal's form whose digits after the point don't end in 0 is a written one (`IsWrittenText`)
fraction_is_written : (text : List ℕ) (f : HasDecimalForm text) → number f.fraction % 10 ≢ 0 → IsWrittenText text
fraction_is_written text f other =
    let p : ℕ = 10 ^ length f.fraction in
    let all : number (f.whole ++ f.fraction) ≡ number f.whole * p + number f.fraction = number-append f.whole f.fraction in
    let few : number f.fraction < p = number-lt f.fraction f.fraction_is.are_digits in
    let tens : number (f.whole ++ f.fraction) % 10 ≡ number f.fraction % 10 = last_of_all f.whole f.fraction f.fraction_is.some in
    is_written_text text f (number (f.whole ++ f.fraction)) (length f.fraction) f.no_minus_on_zero (λ _ divides. other (sym tens ∙ divides)) f.fraction_is.few
    (ap (λ x. x / p) all ∙ div-mul-add (number f.whole) p (number f.fraction) few)
    (places_text-number (length f.fraction) (number (f.whole ++ f.fraction) % p) f.fraction f.fraction_is.are_digits refl
    (sym (ap (λ x. x % p) all ∙ mod-mul-add (number f.whole) p (number f.fraction) few)) f.fraction_is.some) where
      -- if the second of two runs of digits isn't empty, the number of both in a row has the last digit that the number of the
      -- second has
      last_of_all : (ws fs : List ℕ) → 0 < length fs → number (ws ++ fs) % 10 ≡ number fs % 10
      last_of_all ws [] some = absurd (omega (arith, some))
      last_of_all ws (d ∷ ds) some = omega (arith, number-append ws (d ∷ ds), pow-suc 10 (length ds), ap (λ x. number ws * x) (pow-suc 10 (length ds)))

-- every text of a decimal's form is a written one (`IsWrittenText`)
form_is_written : (text : List ℕ) → HasDecimalForm text → IsWrittenText text
form_is_written text f = elim (eqb_tells (number f.fraction % 10) 0) [
  | inl divides ↦
      let r = has_last_digit f.fraction f.fraction_is.some in
      let digit : IsDigit r.last = (every_behind IsDigit r.front (r.last ∷ []) (subst AreDigits r.ds_are f.fraction_is.are_digits)).0 in
      let zero : r.last ≡ 48 = omega (arith, ap (λ ds. number ds % 10) r.ds_are, divides.1, last_digit r.front r.last digit, digit) in
      let ends_so : f.fraction ≡ r.front ++ 48 ∷ [] = r.ds_are ∙ ap (λ d. r.front ++ d ∷ []) zero in
      whole_is_written text f (ends_so ∙ ap (λ xs. xs ++ 48 ∷ []) (f.fraction_is.no_zero_at_the_end r.front ends_so))
  | inr other ↦ fraction_is_written text f other.1
]

-- a lone 0 is a fraction part
zero_fraction_part : IsFractionPart (48 ∷ [])
zero_fraction_part = record { are_digits = ((lit≤ tt, lit≤ tt), tt); some = lit< tt; few = lit≤ tt; no_zero_at_the_end = λ front e. sym (same_from_push [] front 48 48 e).0 }

-- the last s digits, 1 to 24, of a number that doesn't end in 0 are a fraction part
last_digits_fraction_part : (a s : ℕ) → s ≤ 24 → 0 < s → a % 10 ≢ 0 → IsFractionPart (last_digits s (a % 10 ^ s))
last_digits_fraction_part a zero few some other = absurd (omega (arith, some))
last_digits_fraction_part a (suc s) few some other = record {
  are_digits = AreDigits-last_digits (suc s) (a % 10 ^ suc s);
  some = omega (arith, length-last_digits (suc s) (a % 10 ^ suc s));
  few = omega (arith, length-last_digits (suc s) (a % 10 ^ suc s));
  no_zero_at_the_end = λ front e.
      let last = (same_from_push (last_digits s (a % 10 ^ suc s / 10)) front (48 + a % 10 ^ suc s % 10) 48 e).1 in
      absurd (other (let o = mod_pow_last a s in omega (arith, last, o)));
}

-- if there are at most 24 places, and all of them are needed, what is written after the point is a fraction part
fraction_part : (a s : ℕ) → s ≤ 24 → (0 < s → a % 10 ≢ 0) → IsFractionPart (places_text s (a % 10 ^ s))
fraction_part a s few canonical = elim (eqb_tells s 0) [
  | inl none ↦ subst IsFractionPart (ap (λ b. cond b (48 ∷ []) (last_digits s (a % 10 ^ s))) (sym none.0)) zero_fraction_part
  | inr more ↦
      let some : 0 < s = pos_of_ne-zero more.1 in
      subst IsFractionPart (ap (λ b. cond b (48 ∷ []) (last_digits s (a % 10 ^ s))) (sym more.0)) (last_digits_fraction_part a s few some (canonical some))
]

-- if x * b is the product of two numbers above 0, x is above 0
factor_positive : (a p x b : ℕ) → 0 < a → 0 < p → a * p ≡ x * b → 0 < x
factor_positive a p zero b h k e = let both : 0 < a * p = mul-pos h k in absurd (omega (arith, e, both))
factor_positive a p (suc x) b h k e = omega arith

-- what is written of the number of sign `negative` and magnitude a, over 10^s, has a decimal's form, if there are at most 24
-- places, all of them needed, and no minus is before zero
decimal_form-signed : (negative : Bool) (a s : ℕ) → s ≤ 24 → (0 < s → a % 10 ≢ 0) → (negative ≡ true → 0 < a)
    → HasDecimalForm (written (signed negative a) s)
decimal_form-signed negative a s few canonical some = record {
  negative = negative;
  whole = whole_text (a / 10 ^ s);
  fraction = places_text s (a % 10 ^ s);
  text_is = written-signed negative a s some;
  whole_is = whole_part (a / 10 ^ s);
  fraction_is = fraction_part a s few canonical;
  no_minus_on_zero = λ e. above_zero (some e);
} where
  -- if a is above 0, so is the number that the digits before and after the point write
  above_zero : 0 < a → 0 < number (whole_text (a / 10 ^ s) ++ places_text s (a % 10 ^ s))
  above_zero h =
      let b = is_fraction_text a s in
      let ds : List ℕ = places_text s (a % 10 ^ s) in
      let all : number (whole_text (a / 10 ^ s) ++ ds) ≡ a / 10 ^ s * 10 ^ length ds + number ds =
      number-append (whole_text (a / 10 ^ s)) ds ∙ ap (λ n. n * 10 ^ length ds + number ds) (sym (writes_whole (a / 10 ^ s)).value) in
      subst (λ x. 0 < x) (sym all) (factor_positive a (10 ^ length ds) (a / 10 ^ s * 10 ^ length ds + number ds) (10 ^ s) h (ten_pow_pos (length ds)) b.same)

-- what is written of m / 10^s, which needs all its places and has at most 24, has a decimal's form
decimal_form : (m : ℤ) (s : ℕ) → IsCanonical m s → s ≤ 24 → HasDecimalForm (written m s)
decimal_form (pos n) s canonical few = decimal_form-signed false n s few canonical (λ e. absurd (cc))
decimal_form (negsuc n) s canonical few = decimal_form-signed true (suc n) s few canonical (λ _. omega arith)

-- a text is the written one of a decimal exactly where the text has a decimal's form and spells that decimal
pub decimal_text_once : (d : Decimal) (text : List ℕ) → (text ≡ decimal_text d) ↔ (HasDecimalForm text × SpellsDecimal text d)
decimal_text_once d text = (
  λ e. (
    subst HasDecimalForm (sym e) (decimal_form d.digits d.scale d.is_canonical d.has_few_places),
    subst (λ t. SpellsDecimal t d) (sym e) (written_spells d.digits d.scale d.is_canonical d.has_few_places),
  ),
  λ h.
      let r = form_is_written text h.0 in
      let same = spells_once text r.m r.s d.digits d.scale (subst (λ t. Spells t r.m r.s) (sym r.text_is) (written_spells r.m r.s r.canonical r.places)) h.1 in
      r.text_is ∙ ap (λ z. written z r.s) same.0 ∙ ap (written d.digits) same.1,
)
