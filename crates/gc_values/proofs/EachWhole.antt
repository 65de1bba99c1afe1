-- Each text is cut at its sign and its digits, and writes a whole number or none.
use Rattle.gc_values.proofs.Common.{ℕ, suc, Bool, true, false, List, [], ◌∷◌, ℤ, pos, negsuc, refl, ap, ◌⊎◌, inl, inr, arith, AllByRecursion, cases_lt, cases_eq, ints, CutsSign, CutsDigits, IsDigit, AreDigits, number, signed, Absent, Plus, Minus, NamesNumber, NamesWhole, NamesNoWhole, NamesWholeBeyond, IsBetween}
use Rattle.gc_values.proofs.WholeLemmas.{text_names_from_rest, rest_names_from_text}

-- something holds, or it doesn't
abbrev pub IsDecided : Type 0 → Type 0
IsDecided P = P ⊎ (P → ⊥)

-- a byte is a digit, or isn't
pub digit_or_not : (b : ℕ) → IsDecided (IsDigit b)
digit_or_not b = elim (cases_lt b 48) [
  | inl below ↦ inr (λ d. let low = d.0 in omega (arith, below, low))
  | inr above ↦ elim (cases_lt 57 b) [
    | inl far ↦ inr (λ d. let high = d.1 in omega (arith, far, high))
    | inr near ↦ inl (above, near)
  ]
]

-- if each byte has a property, or hasn't it, all bytes of a text have it, or not
pub all_or_not : (P : ℕ → Type 0) → ((b : ℕ) → IsDecided (P b)) → (bytes : List ℕ) → IsDecided (AllByRecursion P bytes)
all_or_not P each [] = inl tt
all_or_not P each (b ∷ bs) = elim (each b) [
  | inr other ↦ inr (λ h. other h.0)
  | inl here ↦ elim (all_or_not P each bs) [ inl more ↦ inl (here, more) | inr none ↦ inr (λ h. none h.1) ]
]

-- a text is digits alone, or isn't
pub digits_or_not : (text : List ℕ) → IsDecided (AreDigits text)
digits_or_not text = all_or_not IsDigit digit_or_not text

-- each text is cut into its longest run of digits and a rest
pub digits_cut : (text : List ℕ) → (run : List ℕ) × (rest : List ℕ) × CutsDigits text run rest
digits_cut [] = ([], [], record { text_is = refl; digits = tt; longest = tt })
digits_cut (b ∷ bs) = elim (digit_or_not b) [
  | inr other ↦ ([], b ∷ bs, record { text_is = refl; digits = tt; longest = other })
  | inl digit ↦
      let more = digits_cut bs in
      (b ∷ more.0, more.1, record { text_is = ap (λ xs. b ∷ xs) more.2.text_is; digits = (digit, more.2.digits); longest = more.2.longest })
]

-- each text is cut into a sign, where one comes first, and a rest
pub sign_cut : (text : List ℕ) → (negative : Bool) × (rest : List ℕ) × CutsSign text negative rest
sign_cut [] = (false, [], record { sign = Absent; text_is = refl; negative_is = refl; first = λ _. tt })
sign_cut (b ∷ bs) = elim (cases_eq b 43) [
  | inl plus ↦ (false, bs, record { sign = Plus; text_is = ap (λ x. x ∷ bs) plus; negative_is = refl; first = λ e. absurd (cc) })
  | inr no_plus ↦ elim (cases_eq b 45) [
    | inl minus ↦ (true, bs, record { sign = Minus; text_is = ap (λ x. x ∷ bs) minus; negative_is = refl; first = λ e. absurd (cc) })
    | inr no_minus ↦ (false, b ∷ bs, record { sign = Absent; text_is = refl; negative_is = refl; first = λ _. (no_plus, no_minus) })
  ]
]

-- a text writes a number, or none
number_or_not : (text : List ℕ) → ((n : ℕ) × NamesNumber text n) ⊎ ((n : ℕ) → NamesNumber text n → ⊥)
number_or_not [] = inr (λ n h. let some = h.some in absurd (omega (arith, some)))
number_or_not (b ∷ bs) = elim (digits_or_not (b ∷ bs)) [
  | inl digits ↦ inl (number (b ∷ bs), record { digits = digits; some = omega arith; value = refl })
  | inr other ↦ inr (λ n h. other h.digits)
]

-- a text writes a whole number, or none
pub whole_or_not : (text : List ℕ) → ((z : ℤ) × NamesWhole text z) ⊎ NamesNoWhole text
whole_or_not text =
    let cut = sign_cut text in
    elim (number_or_not cut.1) [
      | inl found ↦ inl (signed cut.0 found.0, text_names_from_rest text cut.1 cut.0 found.0 cut.2 found.1)
      | inr none ↦ inr (λ z w. let r = rest_names_from_text text cut.1 cut.0 z cut.2 w in none r.0 r.1)
    ]

-- a number is from -below to above, or isn't
between_or_not : (below above : ℕ) (z : ℤ) → IsDecided (IsBetween below above z)
between_or_not below above (pos n) = elim (cases_lt above n) [
  | inl far ↦ inr (λ b. let h = b.1 in omega (arith, ints, far, h))
  | inr near ↦ inl (omega (arith, ints), omega (arith, ints, near))
]
between_or_not below above (negsuc n) = elim (cases_lt below (suc n)) [
  | inl far ↦ inr (λ b. let h = b.0 in omega (arith, ints, far, h))
  | inr near ↦ inl (omega (arith, ints, near), omega (arith, ints))
]

-- a text writes a whole number from -below to above, or no whole number, or another one
pub whole_between : (below above : ℕ) (text : List ℕ)
    → ((z : ℤ) × NamesWhole text z × IsBetween below above z) ⊎ (NamesNoWhole text ⊎ NamesWholeBeyond below above text)
whole_between below above text = elim (whole_or_not text) [
  | inr none ↦ inr (inl none)
  | inl found ↦ elim (between_or_not below above found.0) [
    | inl within ↦ inl (found.0, found.1, within)
    | inr far ↦ inr (inr (found.0, found.1, far))
  ]
]
