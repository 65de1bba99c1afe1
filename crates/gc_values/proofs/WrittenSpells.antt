-- A decimal's written text spells the decimal.
use Rattle.gc_values.proofs.Common.{◌≡◌, ℕ, zero, suc, ◌+◌, ◌-◌, ◌*◌, ◌/◌, ◌%◌, ◌^◌, ◌<◌, ◌≤◌, cond, List, [], ◌∷◌, ◌++◌, length, map, None, Some, ℤ, pos, negsuc, ◌*ℤ◌, refl, sym, ap, ◌∙◌, subst, inl, inr, arith, lit<, lit≤, length-append, pow-suc, mod-lt, div-add-mod', div-one, pos_of_ne-zero, length-map, append-nil, div_below, eqb_tells, digits_of, number_from_digits_after, AllBelowBase, number_digits_of, all_below_base_digits_of, IsDigit, AreDigits, number, signed, IsCanonical, Sign, Absent, Minus, sign_text, is_minus, Parts, parts_value, Spells, NamesNumber, digits_text, whole_text, last_digits, places_text, written}
use Rattle.gc_values.proofs.Every.{every_append}
use Rattle.gc_values.proofs.Kept.{number-append}
use Rattle.gc_values.proofs.Powers.{ten_pow_pos}
use Rattle.gc_values.proofs.Rounded.{exact_rounds}
use Rattle.gc_values.proofs.Signs.{signed-mul}
use Rattle.gc_values.proofs.WrittenLemmas.{digits_text_step, length-last_digits}

-- 48, the byte '0', plus a number below ten is a digit
digit_plus_48 : (d : ℕ) → d < 10 → IsDigit (48 + d)
digit_plus_48 d h = (omega arith, omega arith)

-- the last k digits are digits
pub AreDigits-last_digits : (k n : ℕ) → AreDigits (last_digits k n)
AreDigits-last_digits zero n = tt
AreDigits-last_digits (suc k) n = every_append IsDigit (last_digits k (n / 10)) _ (AreDigits-last_digits k (n / 10)) (digit_plus_48 (n % 10) (mod-lt n (lit< tt)), tt)

-- the last k digits of a number below 10^k write it
pub number-last_digits : (k n : ℕ) → n < 10 ^ k → number (last_digits k n) ≡ n
number-last_digits zero n h = omega arith
number-last_digits (suc k) n h =
    let small : n / 10 < 10 ^ k = div_below n 10 (10 ^ k) (lit< tt) (subst (λ x. n < x) (pow-suc 10 k) h) in
    let front = number-last_digits k (n / 10) small in
    omega (arith, number-append (last_digits k (n / 10)) ((48 + n % 10) ∷ []), front)

-- the arithmetic of a step of `digits_after`, in which the digit d is appended to the number n: d counts p-fold, and n ten times
-- that
digits_step : (n d p q v w x : ℕ) → v ≡ (n * 10 + d) * p + w → q ≡ p * 10 → x ≡ p → v ≡ n * q + (d * x + w)
digits_step n d p q v w x e f g = omega (arith, e, ap (λ y. n * y) f, ap (λ y. d * y) g)

-- digits that are read after a number n give n times ten to the count of the digits, plus the number that the digits write
digits_after : (n : ℕ) (ds : List ℕ) → number_from_digits_after 10 n ds ≡ n * 10 ^ length ds + number (map (λ d. 48 + d) ds)
digits_after n [] = omega arith
digits_after n (d ∷ ds) =
    let back : (48 + d - 48) * 10 ^ length (map (λ d. 48 + d) ds) ≡ d * 10 ^ length (map (λ d. 48 + d) ds) =
    ap (λ e. e * 10 ^ length (map (λ d. 48 + d) ds)) (let e : 48 + d - 48 ≡ d = omega arith in e) in
    digits_step n d (10 ^ length ds) (10 ^ length (d ∷ ds)) (number_from_digits_after 10 (n * 10 + d) ds) (number (map (λ d. 48 + d) ds)) (10 ^ length (map (λ d. 48 + d) ds))
    (digits_after (n * 10 + d) ds) (pow-suc 10 (length ds)) (ap (λ e. 10 ^ e) (length-map ds (λ d. 48 + d)))
    ∙ ap (λ y. n * 10 ^ length (d ∷ ds) + (y + number (map (λ d. 48 + d) ds))) (sym back)

-- a number's digits write it
number-digits_text : (n : ℕ) → number (digits_text n) ≡ n
number-digits_text n = omega (arith, digits_after 0 (digits_of 10 n), number_digits_of 10 n (lit≤ tt))

-- values below ten, written, are digits
map_digits : (ds : List ℕ) → AllBelowBase 10 ds → AreDigits (map (λ d. 48 + d) ds)
map_digits [] h = tt
map_digits (d ∷ ds) h = (digit_plus_48 d h.0, map_digits ds h.1)

-- a number's digits are digits
AreDigits-digits_text : (n : ℕ) → AreDigits (digits_text n)
AreDigits-digits_text n = map_digits (digits_of 10 n) (all_below_base_digits_of 10 n (lit≤ tt))

-- a whole number's text writes it
pub writes_whole : (n : ℕ) → NamesNumber (whole_text n) n
writes_whole n = elim (eqb_tells n 0) [
  | inl none ↦ subst (λ xs. NamesNumber xs n) (ap (λ b. cond b (48 ∷ []) (digits_text n)) (sym none.0)) (record { digits = (digit_plus_48 0 (lit< tt), tt); some = lit< tt; value = none.1 })
  | inr some ↦ subst (λ xs. NamesNumber xs n) (ap (λ b. cond b (48 ∷ []) (digits_text n)) (sym some.0)) (record {
    digits = AreDigits-digits_text n;
    some = let h : 0 < n = pos_of_ne-zero some.1 in omega (arith, ap length (digits_text_step n h), length-append (digits_text (n / 10)) ((48 + n % 10) ∷ []));
    value = sym (number-digits_text n);
  })
]

-- for s above 0, the last s digits of a number below 10^s write it
writes_behind : (s n : ℕ) → n < 10 ^ s → 0 < s → NamesNumber (last_digits s n) n
writes_behind s n h some = record { digits = AreDigits-last_digits s n; some = omega (arith, length-last_digits s n); value = sym (number-last_digits s n h) }

-- the text is digits that may follow the point of a / 10^s: with the whole number before the point they write its value
pub record IsFractionText (a s : ℕ) (text : List ℕ) : Type 0 where
  pub digits : AreDigits text
  pub same : a * 10 ^ length text ≡ (a / 10 ^ s * 10 ^ length text + number text) * 10 ^ s

-- without places, a lone 0 follows the point
fraction_text_none : (a : ℕ) → IsFractionText a 0 (48 ∷ [])
fraction_text_none a = record { digits = (digit_plus_48 0 (lit< tt), tt); same = let e : a / 10 ^ 0 ≡ a = div-one a in let f : (a / 10 ^ 0 * 10 + 0) * 1 ≡ a * 10 = omega (arith, e) in sym f }

-- with places, the last s digits follow the point
fraction_text_some : (a s : ℕ) → 0 < s → IsFractionText a s (last_digits s (a % 10 ^ s))
fraction_text_some a s some =
    let w = writes_behind s (a % 10 ^ s) (mod-lt a (ten_pow_pos s)) some in
    let size = length-last_digits s (a % 10 ^ s) in
    let whole : a / 10 ^ s * 10 ^ s + a % 10 ^ s ≡ a = div-add-mod' a (10 ^ s) in
    record {
      digits = w.digits;
      same = ap (λ k. a * 10 ^ k) size ∙ ap (λ x. x * 10 ^ s) (sym whole) ∙ ap (λ x. (a / 10 ^ s * 10 ^ s + x) * 10 ^ s) w.value
          ∙ ap (λ k. (a / 10 ^ s * 10 ^ k + number (last_digits s (a % 10 ^ s))) * 10 ^ s) (sym size);
    }

-- what is written after the point of a / 10^s is allowed there, as `IsFractionText` has it
pub is_fraction_text : (a s : ℕ) → IsFractionText a s (places_text s (a % 10 ^ s))
is_fraction_text a s = elim (eqb_tells s 0) [
  | inl none ↦ subst (λ xs. IsFractionText a s xs) (ap (λ b. cond b (48 ∷ []) (last_digits s (a % 10 ^ s))) (sym none.0))
      (subst (λ t. IsFractionText a t (48 ∷ [])) (sym none.1) (fraction_text_none a))
  | inr some ↦ subst (λ xs. IsFractionText a s xs) (ap (λ b. cond b (48 ∷ []) (last_digits s (a % 10 ^ s))) (sym some.0)) (fraction_text_some a s (pos_of_ne-zero some.1))
]

-- if m, a number with the sign `sign` and the magnitude a, needs all its places s, at most 24, its sign, the digits before the
-- point, a point and the digits after it spell m / 10^s
parts_spell : (sign : Sign) (m : ℤ) (s : ℕ) (a : ℕ) → m ≡ signed (is_minus sign) a → IsCanonical m s → s ≤ 24 →
    Spells (sign_text sign ++ (whole_text (a / 10 ^ s) ++ (46 ∷ places_text s (a % 10 ^ s)))) m s
parts_spell sign m s a m_is canonical places =
    let w = writes_whole (a / 10 ^ s) in
    let b = is_fraction_text a s in
    let whole : List ℕ = whole_text (a / 10 ^ s) in
    let frac : List ℕ = places_text s (a % 10 ^ s) in
    let parts : Parts = record { sign = sign; whole = whole; fraction = Some frac; exponent = None } in
    let digits : number (whole ++ frac) ≡ a / 10 ^ s * 10 ^ length frac + number frac = number-append whole frac ∙ ap (λ n. n * 10 ^ length frac + number frac) (sym w.value) in
    let size : a * 10 ^ (length frac + 0) ≡ number (whole ++ frac) * 10 ^ 0 * 10 ^ s =
    ap (λ k. a * 10 ^ k) (let e : length frac + 0 ≡ length frac = omega arith in e) ∙ b.same ∙ ap (λ n. n * 10 ^ s) (sym digits)
    ∙ ap (λ n. n * 10 ^ s) (let e : number (whole ++ frac) ≡ number (whole ++ frac) * 10 ^ 0 = omega arith in e) in
    let same : m *ℤ pos (10 ^ (length frac + 0)) ≡ signed (is_minus sign) (number (whole ++ frac) * 10 ^ 0) *ℤ pos (10 ^ s) =
    ap (λ z. z *ℤ pos (10 ^ (length frac + 0))) m_is ∙ signed-mul (is_minus sign) a (10 ^ (length frac + 0)) ∙ ap (signed (is_minus sign)) size
    ∙ sym (signed-mul (is_minus sign) (number (whole ++ frac) * 10 ^ 0) (10 ^ s)) in (
      parts_value parts,
      (
        parts,
        record { whole = w.digits; fraction = b.digits; some = let h = w.some in omega arith; exponent = tt },
        ap (λ xs. sign_text sign ++ (whole ++ (46 ∷ xs))) (sym (append-nil frac)),
        refl,
      ),
      exact_rounds (parts_value parts) 24 m s canonical places same,
    )

-- the written text of m / 10^s, which needs all its places and has at most 24, spells m / 10^s
pub written_spells : (m : ℤ) (s : ℕ) → IsCanonical m s → s ≤ 24 → Spells (written m s) m s
written_spells (pos n) s canonical places = parts_spell Absent (pos n) s n refl canonical places
written_spells (negsuc n) s canonical places = parts_spell Minus (negsuc n) s (suc n) refl canonical places
