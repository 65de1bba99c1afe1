-- The written texts of values are parameters, short and without CR and LF. A bare byte is no space, double quote, comma, CR or
-- LF; the texts of numbers and byte parameters have bare bytes alone.
use Rattle.gc_values.proofs.Common.{◌≡◌, ◌≢◌, ℕ, ◌+◌, ◌/◌, ◌%◌, ◌<◌, ◌≤◌, ◌^◌, Bool, true, false, ltb, ℤ, pos, negsuc, unsigned_abs, List, [], ◌∷◌, ◌++◌, length, map, refl, sym, subst, ap, ◌∙◌, inl, inr, arith, lit<, lit≤, length-append, ltb-true, agree_below_at, All-from_recursion, same_from_push, div_below, All, AllByRecursion, slice_index, lower_digits, IsDigit, AreDigits, IsValue, text, AreValues, quotes, IsParam, joined, IsParams, IsStringByte, AreStringBytes, quoted, signed_text, boolean_text, byte_text, IsInRange, minus_text, whole_text, places_text, written, Value}
use Rattle.gc_values.proofs.Every.{every_weaker, every_append, every_behind}
use Rattle.gc_values.proofs.Quotes.{quotes-append, quotes-cons, quotes-none, push_cut}
use Rattle.gc_values.proofs.Powers.{ten_pow_pos}
use Rattle.gc_values.proofs.WholeText.{length-whole_text, length-minus_text, length-long, length-short}
use Rattle.gc_values.proofs.WrittenLemmas.{length-places_text}
use Rattle.gc_values.proofs.ParamLists.{joined_params}
use Rattle.gc_values.proofs.WrittenSpells.{writes_whole, is_fraction_text}
use Rattle.gc_values.specs.declared.value.Value.TheVariants as value

-- a byte that is no space, double quote, comma, CR or LF
pub record IsBare (b : ℕ) : Type 0 where
  pub space : b ≢ 32
  pub quote : b ≢ 34
  pub comma : b ≢ 44
  pub cr : b ≢ 13
  pub lf : b ≢ 10

-- bytes of which none is a space, double quote, comma, CR or LF (`IsBare`)
abbrev pub AreBare : List ℕ → Type 0
AreBare bs = AllByRecursion IsBare bs

-- a byte above 44 is bare
pub bare_above : (b : ℕ) → 44 < b → IsBare b
bare_above b h = record { space = λ e. omega (arith, e); quote = λ e. omega (arith, e); comma = λ e. omega (arith, e); cr = λ e. omega (arith, e); lf = λ e. omega (arith, e) }

-- a single quote is bare
bare_quote : IsBare 39
bare_quote = record { space = λ e. omega (arith, e); quote = λ e. omega (arith, e); comma = λ e. omega (arith, e); cr = λ e. omega (arith, e); lf = λ e. omega (arith, e) }

-- digits are bare
pub bare_digits : (ds : List ℕ) → AreDigits ds → AreBare ds
bare_digits ds h = every_weaker IsDigit IsBare ds (λ d digit. bare_above d (let low = digit.0 in omega (arith, low))) h

-- bare bytes have no double quote
quotes-bare : (xs : List ℕ) → AreBare xs → quotes xs ≡ 0
quotes-bare xs h = quotes-none xs (every_weaker IsBare (λ b. b ≢ 34) xs (λ b bare. bare.quote) h)

-- bare bytes are a parameter
pub bare_param : (xs : List ℕ) → AreBare xs → IsParam xs
bare_param xs h = record {
  first = λ rest e. (subst AreBare e h).0.space refl;
  last = λ front e. (every_behind IsBare front (32 ∷ []) (subst AreBare e h)).0.space refl;
  pairs = ap (λ n. n % 2) (quotes-bare xs h);
  commas = λ front rest e. absurd ((every_behind IsBare front (44 ∷ rest) (subst AreBare e h)).0.comma refl);
}

-- a minus, or none, is bare
bare_minus : (z : ℤ) → AreBare (minus_text z)
bare_minus (pos n) = tt
bare_minus (negsuc n) = (bare_above 45 (lit< tt), tt)

-- a whole number's text is bare
bare_whole : (n : ℕ) → AreBare (whole_text n)
bare_whole n = bare_digits (whole_text n) (writes_whole n).digits

-- the text of a whole number with a sign is bare
bare_signed : (z : ℤ) → AreBare (signed_text z)
bare_signed z = every_append IsBare (minus_text z) (whole_text (unsigned_abs z)) (bare_minus z) (bare_whole (unsigned_abs z))

-- a decimal's text is bare
bare_written : (m : ℤ) (s : ℕ) → AreBare (written m s)
bare_written m s =
    let n = unsigned_abs m in
    every_append IsBare (minus_text m) (whole_text (n / 10 ^ s) ++ (46 ∷ places_text s (n % 10 ^ s))) (bare_minus m)
    (every_append IsBare (whole_text (n / 10 ^ s)) (46 ∷ places_text s (n % 10 ^ s)) (bare_whole (n / 10 ^ s))
    (bare_above 46 (lit< tt), bare_digits (places_text s (n % 10 ^ s)) (is_fraction_text n s).digits))

-- a hexadecimal digit is above 44, the comma
pub hex_digit_above_comma : (d : ℕ) → d < 16 → 44 < slice_index lower_digits d
hex_digit_above_comma d h = ltb-true 44 (slice_index lower_digits d) (agree_below_at (λ k. ltb 44 (slice_index lower_digits k)) (λ _. true) 16 d refl h)

-- the text of a byte parameter, a number below 256, is bare
bare_byte : (n : ℕ) → n < 256 → AreBare (byte_text n)
bare_byte n h = (
  bare_quote,
  (
    bare_above (slice_index lower_digits (n / 16)) (hex_digit_above_comma (n / 16) (omega arith)),
    (bare_above (slice_index lower_digits (n % 16)) (hex_digit_above_comma (n % 16) (omega arith)), (bare_quote, tt)),
  ),
)

-- a Boolean's text is bare
bare_boolean : (b : Bool) → AreBare (boolean_text b)
bare_boolean false = (bare_above 48 (lit< tt), tt)
bare_boolean true = (bare_above 49 (lit< tt), tt)

-- a string's bytes hold no double quote
quotes-string : (bytes : List ℕ) → AreStringBytes bytes → quotes bytes ≡ 0
quotes-string bytes h = quotes-none bytes (every_weaker IsStringByte (λ b. b ≢ 34) bytes (λ b allowed. allowed.0) h)

-- a comma in a quoted string is inside the quotes
quoted_commas : (bytes front rest : List ℕ) → AreStringBytes bytes → quoted bytes ≡ front ++ 44 ∷ rest → quotes front % 2 ≡ 1
quoted_commas bytes [] rest h e = let first : ◌≡◌ {A = ℕ} 34 44 = cc in absurd (omega (arith, first))
quoted_commas bytes (f ∷ fs) rest h e =
    let first : f ≡ 34 = cc in
    let t : bytes ++ 34 ∷ [] ≡ fs ++ 44 ∷ rest = cc in
    elim (push_cut bytes fs rest 34 t) [
      | inl last ↦ let bad = last.0 in absurd (omega (arith, bad))
      | inr inside ↦
          let none : quotes (fs ++ 44 ∷ inside.0) ≡ 0 = ap quotes (sym inside.1) ∙ quotes-string bytes h in
          let one : quotes (f ∷ fs) ≡ 1 + quotes fs = ap (λ b. quotes (b ∷ fs)) first ∙ quotes-cons 34 fs in
          omega (arith, none, one, quotes-append fs (44 ∷ inside.0))
    ]

-- a quoted string is a parameter
quoted_param : (bytes : List ℕ) → AreStringBytes bytes → IsParam (quoted bytes)
quoted_param bytes h = record {
  first = λ rest e. let bad : ◌≡◌ {A = ℕ} 34 32 = cc in omega (arith, bad);
  last = λ front e. let bad = (same_from_push (34 ∷ bytes) front 34 32 e).1 in omega (arith, bad);
  pairs = let one = quotes-cons 34 (bytes ++ 34 ∷ []) in let two = quotes-append bytes (34 ∷ []) in let none = quotes-string bytes h in
      let both : quotes (34 ∷ []) ≡ 1 = refl in omega (arith, one, two, none, both);
  commas = λ front rest e. quoted_commas bytes front rest h e;
}

-- the text of a value in its kind's range is a parameter
pub text_is_param : (v : Value) → IsValue v → IsParam (text v)
text_is_param (value.Double d) h = bare_param _ (bare_written d.digits d.scale)
text_is_param (value.Long z) h = bare_param _ (bare_signed z)
text_is_param (value.Short z) h = bare_param _ (bare_signed z)
text_is_param (value.Byte n) h = bare_param _ (bare_byte n h)
text_is_param (value.Bool b) h = bare_param _ (bare_boolean b)
text_is_param (value.Text bytes) h = quoted_param bytes h.plain

-- a text with a whole number in it isn't empty
whole_not_empty : (before behind : List ℕ) (n : ℕ) → 0 < length (before ++ (whole_text n ++ behind))
whole_not_empty before behind n = omega (arith, length-append before (whole_text n ++ behind), length-append (whole_text n) behind, (writes_whole n).some)

-- the text of a whole number with a sign isn't empty
signed_not_empty : (z : ℤ) → 0 < length (signed_text z)
signed_not_empty z = omega (arith, length-append (minus_text z) (whole_text (unsigned_abs z)), (writes_whole (unsigned_abs z)).some)

-- the text of a value isn't empty
pub text_not_empty : (v : Value) → 0 < length (text v)
text_not_empty (value.Double d) = whole_not_empty (minus_text d.digits) _ (unsigned_abs d.digits / 10 ^ d.scale)
text_not_empty (value.Long z) = signed_not_empty z
text_not_empty (value.Short z) = signed_not_empty z
text_not_empty (value.Byte n) = omega arith
text_not_empty (value.Bool false) = omega arith
text_not_empty (value.Bool true) = omega arith
text_not_empty (value.Text bytes) = omega arith

-- what is true of each bare byte, of each byte that is allowed in a string, and of a double quote is true of each byte of the text
-- of a value in its kind's range
true_of_text_bytes : (P : ℕ → Type 0) → ((b : ℕ) → IsBare b → P b) → ((b : ℕ) → IsStringByte b → P b) → P 34 → (v : Value) → IsValue v → AllByRecursion P (text v)
true_of_text_bytes P bare allowed quote (value.Double d) h = every_weaker IsBare P _ bare (bare_written d.digits d.scale)
true_of_text_bytes P bare allowed quote (value.Long z) h = every_weaker IsBare P _ bare (bare_signed z)
true_of_text_bytes P bare allowed quote (value.Short z) h = every_weaker IsBare P _ bare (bare_signed z)
true_of_text_bytes P bare allowed quote (value.Byte n) h = every_weaker IsBare P (byte_text n) bare (bare_byte n h)
true_of_text_bytes P bare allowed quote (value.Bool b) h = every_weaker IsBare P _ bare (bare_boolean b)
true_of_text_bytes P bare allowed quote (value.Text bytes) h =
    (quote, every_append P bytes (34 ∷ []) (every_weaker IsStringByte P bytes allowed h.plain) (quote, tt))

-- the text of a value in its kind's range has no CR and no LF
pub text_is_plain : (v : Value) → IsValue v → All (λ b. (b ≢ 10) × (b ≢ 13)) (text v)
text_is_plain v h =
    let ends_no_line : ℕ → Type 0 = λ b. (b ≢ 10) × (b ≢ 13) in
    let quote : ends_no_line 34 = (λ e. omega (arith, e), λ e. omega (arith, e)) in
    All-from_recursion ends_no_line (text v) (true_of_text_bytes ends_no_line (λ b bare. (bare.lf, bare.cr)) (λ b allowed. (allowed.2, allowed.1)) quote v h)

-- what is written of m / 10^s, which is in range and has at most 24 places, has at most 40 bytes
pub length-written : (m : ℤ) (s : ℕ) → IsInRange m s → s ≤ 24 → length (written m s) ≤ 40
length-written m s small few =
    let n = unsigned_abs m in
    let top : n / 10 ^ s < 10 ^ 14 = div_below n (10 ^ s) (10 ^ 14) (ten_pow_pos s) (omega (arith, small, ten_pow_pos s)) in
    omega (
      arith,
      length-append (minus_text m) (whole_text (n / 10 ^ s) ++ (46 ∷ places_text s (n % 10 ^ s))),
      length-append (whole_text (n / 10 ^ s))
          (46 ∷ places_text s (n % 10 ^ s)),
      length-minus_text m,
      length-whole_text (n / 10 ^ s) 14 (lit< tt) top,
      length-places_text s (n % 10 ^ s) few,
    )

-- the text of a value in its kind's range has at most 66 bytes
pub text_is_short : (v : Value) → IsValue v → length (text v) ≤ 66
text_is_short (value.Double d) h = let l = length-written d.digits d.scale d.is_in_range d.has_few_places in omega (arith, l)
text_is_short (value.Long z) h = let l = length-long z h in omega (arith, l)
text_is_short (value.Short z) h = let l = length-short z h in omega (arith, l)
text_is_short (value.Byte n) h = lit≤ tt
text_is_short (value.Bool false) h = lit≤ tt
text_is_short (value.Bool true) h = lit≤ tt
text_is_short (value.Text bytes) h = let few = h.few in omega (arith, few, length-append bytes (34 ∷ []))

-- the texts of values in their kinds' ranges are parameters
texts_are_params : (vs : List Value) → AreValues vs → AllByRecursion IsParam (map text vs)
texts_are_params [] h = tt
texts_are_params (v ∷ vs) h = (text_is_param v h.0, texts_are_params vs h.1)

-- the texts of values aren't empty
texts_not_empty : (vs : List Value) → AllByRecursion (λ t. 0 < length t) (map text vs)
texts_not_empty [] = tt
texts_not_empty (v ∷ vs) = (text_not_empty v, texts_not_empty vs)

-- the texts of values in their kinds' ranges, joined by commas, split back into these texts
pub joined_splits : (vs : List Value) → AreValues vs → IsParams (joined (map text vs)) (map text vs)
joined_splits vs h = joined_params (map text vs) (texts_are_params vs h) (texts_not_empty vs)
