-- The numbers of a line: the manual's. That they may have leading zeros, within five digits, is this project's own.
use Rattle.std.specs.Prelude.{◌≡◌, ℕ, ◌<◌, ◌≤◌, false, List, [], ◌∷◌, ◌++◌, length, slice_index}
use Rattle.std.specs.Char.{is_ascii_digit}
use Rattle.std.specs.Str.Parse.{digits_value, AllDigits}

-- a text of one to five digits writes the number n, which is at most 65535
pub record IsSmallNumber (text : List ℕ) (n : ℕ) : Type 0 where
  pub some : 0 < length text
  pub few : length text ≤ 5
  pub digits : AllDigits 10 text
  pub value : digits_value 10 text ≡ n
  pub bound : n < 65536

-- a text of digits doesn't begin with 0, except where it is 0 alone
abbrev pub NoLeadingZero : List ℕ → Type 0
NoLeadingZero text = slice_index text 0 ≡ 48 → length text ≡ 1

-- the bytes don't begin with a digit
abbrev pub NoDigitFirst : List ℕ → Type 0
NoDigitFirst [] = Unit {0}
NoDigitFirst (b ∷ bs) = is_ascii_digit b ≡ false

-- the bytes begin with a whole run of digits that is a number, and the rest follows it
pub record HasNumber (bytes : List ℕ) (n : ℕ) (rest : List ℕ) : Type 0 where
  pub text : List ℕ
  pub is_number : IsSmallNumber text n
  pub whole : bytes ≡ text ++ rest
  pub ends : NoDigitFirst rest
