-- A byte parameter, which is two hexadecimal digits between single quotes: a text is the parameter of one byte at most, and a
-- byte's text reads back.
use Rattle.gc_values.proofs.Common.{◌≡◌, ℕ, ◌+◌, ◌*◌, ◌/◌, ◌%◌, ◌<◌, List, [], ◌∷◌, Some, refl, sym, ap, ◌∙◌, arith, slice_index, hex_digit_value, lower_digits, encode_lower, IsByte, byte_text}
use Rattle.std.specs.Prelude.{Option}
use Rattle.hex.specs.Hex.{encode_with}
use Rattle.hex.proofs.HexLemmas.{IsDigits-lower_digits}

-- if equal bytes are hexadecimal digits, these have the same value
one_digit_value : (a b x y : ℕ) → a ≡ b → hex_digit_value a ≡ Some x → hex_digit_value b ≡ Some y → x ≡ y
one_digit_value a b x y e p q = let f = ap hex_digit_value e in let s : ◌≡◌ {A = Option ℕ} (Some x) (Some y) = sym p ∙ f ∙ q in cc

-- a text is the byte parameter of at most one number
pub one_byte : (text : List ℕ) (m n : ℕ) → IsByte text m → IsByte text n → m ≡ n
one_byte text m n x y =
    let same = sym x.text_is ∙ y.text_is in
    let first : x.a ≡ y.a = cc in
    let second : x.b ≡ y.b = cc in
    let high = one_digit_value x.a y.a x.high y.high first x.high_is y.high_is in
    let low = one_digit_value x.b y.b x.low y.low second x.low_is y.low_is in
    x.value ∙ ap (λ h. h * 16 + x.low) high ∙ ap (λ l. y.high * 16 + l) low ∙ sym y.value

-- the written text of a byte, a number below 256, reads as the byte
pub byte_reads : (n : ℕ) → n < 256 → IsByte (byte_text n) n
byte_reads n small = record {
  a = slice_index lower_digits (n / 16);
  b = slice_index lower_digits (n % 16);
  high = n / 16;
  low = n % 16;
  text_is = refl;
  high_is = IsDigits-lower_digits (n / 16) (omega arith);
  low_is = IsDigits-lower_digits (n % 16) (omega arith);
  value = omega arith;
}

-- encoding one byte gives its two digits
pub encode_lower-one : (n : ℕ) → encode_lower (n ∷ []) ≡ slice_index lower_digits (n / 16) ∷ slice_index lower_digits (n % 16) ∷ []
unfolding encode_with
encode_lower-one n = refl
