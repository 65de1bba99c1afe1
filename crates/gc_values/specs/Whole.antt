-- Whole numbers: their texts, and the ranges of Long and Short, which are those of the GeoCOM manual's chapter on the ASCII
-- protocol. That a plus and leading zeros are read is this project's own.
use Rattle.std.specs.Prelude.{◌≡◌, ℕ, ◌<◌, List, ◌++◌, length, ℤ, pos, neg_ℤ, ◌≤ℤ◌, unsigned_abs}
use Rattle.gc_values.specs.Digits.{AreDigits, number}
use Rattle.gc_values.specs.Fraction.{signed}
use Rattle.gc_values.specs.Spelling.{Sign, sign_text, is_minus}
use Rattle.gc_values.specs.ValueFault.{IsSpellingOrRange}
use Rattle.gc_values.specs.Written.{minus_text, whole_text}
use Rattle.gc_values.specs.declared.fault.ValueFault.{ValueFault}

-- the text is one or more digits, which write n
pub record NamesNumber (text : List ℕ) (n : ℕ) : Type 0 where
  pub digits : AreDigits text
  pub some : 0 < length text
  pub value : n ≡ number text

-- why the text is no number up to `max`: it isn't one or more digits (`Spelling`), or its number is greater (`Range`)
abbrev pub IsNumberFault : (max : ℕ) (text : List ℕ) → ValueFault → Type 0
IsNumberFault max text e = IsSpellingOrRange ((n : ℕ) → NamesNumber text n → ⊥) ((n : ℕ) × NamesNumber text n × (max < n)) e

-- the text is a sign or none, and one or more digits, which write z
pub record NamesWhole (text : List ℕ) (z : ℤ) : Type 0 where
  pub sign : Sign
  pub digits : List ℕ
  pub n : ℕ
  pub text_is : text ≡ sign_text sign ++ digits
  pub number_is : NamesNumber digits n
  pub value : z ≡ signed (is_minus sign) n

-- z is from -below to above
abbrev pub IsBetween : (below above : ℕ) → ℤ → Type 0
IsBetween below above z = (neg_ℤ (pos below) ≤ℤ z) × (z ≤ℤ pos above)

-- z is in the range of a Long
abbrev pub FitsLong : ℤ → Type 0
FitsLong z = IsBetween 2147483648 2147483647 z

-- z is in the range of a Short
abbrev pub FitsShort : ℤ → Type 0
FitsShort z = IsBetween 32768 32767 z

-- the text writes no whole number
abbrev pub NamesNoWhole : List ℕ → Type 0
NamesNoWhole text = (z : ℤ) → NamesWhole text z → ⊥

-- the text writes a whole number that isn't from -below to above
abbrev pub NamesWholeBeyond : (below above : ℕ) (text : List ℕ) → Type 0
NamesWholeBeyond below above text = (z : ℤ) × NamesWhole text z × (IsBetween below above z → ⊥)

-- why the text is no whole number from -below to above: it writes none (`Spelling`), or one outside (`Range`)
abbrev pub IsWholeFault : (below above : ℕ) (text : List ℕ) → ValueFault → Type 0
IsWholeFault below above text e = IsSpellingOrRange (NamesNoWhole text) (NamesWholeBeyond below above text) e

-- a whole number, written: a minus where it is below zero, and digits without leading zeros
abbrev pub signed_text : ℤ → List ℕ
signed_text z = minus_text z ++ whole_text (unsigned_abs z)
