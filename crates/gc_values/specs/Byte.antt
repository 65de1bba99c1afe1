-- Bytes: two hexadecimal digits between single quotes, as in the GeoCOM manual's chapter on the ASCII protocol. That both
-- cases are read and lower case is written is this project's own.
use Rattle.std.specs.Prelude.{◌≡◌, ℕ, ◌+◌, ◌*◌, ◌/◌, ◌%◌, List, [], ◌∷◌, Some, slice_index}
use Rattle.hex.specs.Hex.{hex_digit_value, lower_digits}

-- the text is two hexadecimal digits `a` and `b` between single quotes; they write n
pub record IsByte (text : List ℕ) (n : ℕ) : Type 0 where
  pub a : ℕ
  pub b : ℕ
  pub high : ℕ
  pub low : ℕ
  pub text_is : text ≡ 39 ∷ a ∷ b ∷ 39 ∷ []
  pub high_is : hex_digit_value a ≡ Some high
  pub low_is : hex_digit_value b ≡ Some low
  pub value : n ≡ high * 16 + low

-- the text isn't two hexadecimal digits between single quotes
abbrev pub IsNoByte : List ℕ → Type 0
IsNoByte text = (n : ℕ) → IsByte text n → ⊥

-- a byte, written: its two digits in lower case between single quotes
abbrev pub byte_text : ℕ → List ℕ
byte_text n = 39 ∷ slice_index lower_digits (n / 16) ∷ slice_index lower_digits (n % 16) ∷ 39 ∷ []
