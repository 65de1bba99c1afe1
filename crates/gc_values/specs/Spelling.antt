-- The texts of a decimal: an optional sign, digits with an optional point, and an optional exponent, as in the GeoCOM
-- manual's chapter on the ASCII protocol. The exponent's at most three digits and the rounding to 24 places are this
-- project's own.
use Rattle.std.specs.Prelude.{◌≡◌, ℕ, ◌+◌, ◌*◌, ◌^◌, ◌<◌, ◌≤◌, Bool, true, false, List, [], ◌∷◌, ◌++◌, length, Option, Some, None, ℤ, unsigned_abs, if◌then◌else◌}
use Rattle.gc_values.specs.Digits.{AreDigits, number}
use Rattle.gc_values.specs.Fraction.{Fraction, signed, IsRounded}

-- the sign before digits: none, a plus or a minus
pub data Sign : Type 0 where
  Absent : Sign
  Plus : Sign
  Minus : Sign

-- how a sign is written
abbrev pub sign_text : Sign → List ℕ
sign_text Absent = []
sign_text Plus = 43 ∷ []
sign_text Minus = 45 ∷ []

-- whether a sign is a minus
abbrev pub is_minus : Sign → Bool
is_minus Absent = false
is_minus Plus = false
is_minus Minus = true

-- an exponent: `E` (where `capital`) or `e`, a sign and digits
pub record Exponent : Type 0 where
  pub capital : Bool
  pub sign : Sign
  pub digits : List ℕ

-- the parts of a number's text: a sign, the digits before the point, those after it, where there is a point, and an exponent,
-- where there is one
pub record Parts : Type 0 where
  pub sign : Sign
  pub whole : List ℕ
  pub fraction : Option (List ℕ)
  pub exponent : Option Exponent

-- a point and the digits after it, where there is a fraction
abbrev pub fraction_text : Option (List ℕ) → List ℕ
fraction_text None = []
fraction_text (Some ds) = 46 ∷ ds

-- the digits after the point, none without a point
abbrev pub fraction_digits : Option (List ℕ) → List ℕ
fraction_digits None = []
fraction_digits (Some ds) = ds

-- the mark of an exponent: `E` where `capital` is true, else `e`
abbrev pub mark : (capital : Bool) → ℕ
mark capital = if capital then 69 else 101

-- an exponent as it is written, where there is one
abbrev pub exponent_text : Option Exponent → List ℕ
exponent_text None = []
exponent_text (Some e) = mark e.capital ∷ (sign_text e.sign ++ e.digits)

-- how many times the exponent multiplies by ten
abbrev pub ups : Option Exponent → ℕ
ups None = 0
ups (Some e) = if is_minus e.sign then 0 else number e.digits

-- how many times the exponent divides by ten
abbrev pub downs : Option Exponent → ℕ
downs None = 0
downs (Some e) = if is_minus e.sign then number e.digits else 0

-- the digits of an exponent: one to three
pub record IsExponentDigits (digits : List ℕ) : Type 0 where
  pub digits_are : AreDigits digits
  pub some : 0 < length digits
  pub few : length digits ≤ 3

-- an exponent, where there is one, has one to three digits
abbrev pub IsExponent : Option Exponent → Type 0
IsExponent None = Unit {0}
IsExponent (Some e) = IsExponentDigits e.digits

-- the parts are those of a number's text: digits, at least one of them before or after the point, and an exponent of one to
-- three digits, if any
pub record IsNumeral (p : Parts) : Type 0 where
  pub whole : AreDigits p.whole
  pub fraction : AreDigits (fraction_digits p.fraction)
  pub some : 0 < length p.whole + length (fraction_digits p.fraction)
  pub exponent : IsExponent p.exponent

-- the text of the parts
abbrev pub spelling : Parts → List ℕ
spelling p = sign_text p.sign ++ (p.whole ++ (fraction_text p.fraction ++ exponent_text p.exponent))

-- the value of the parts: all the digits as a whole number with the sign, divided by ten for each digit after the point, and
-- multiplied or divided as the exponent says
abbrev pub parts_value : Parts → Fraction
parts_value p = record {
  n = signed (is_minus p.sign) (number (p.whole ++ fraction_digits p.fraction) * 10 ^ ups p.exponent);
  k = length (fraction_digits p.fraction) + downs p.exponent;
}

-- the text is a number's, and the fraction is its value, before any rounding
abbrev pub NamesFraction : List ℕ → Fraction → Type 0
NamesFraction text q = (p : Parts) × IsNumeral p × (text ≡ spelling p) × (q ≡ parts_value p)

-- the text spells m / 10^s: the fraction that it names, rounded to 24 places
abbrev pub Spells : (text : List ℕ) → (m : ℤ) → (s : ℕ) → Type 0
Spells text m s = (q : Fraction) × NamesFraction text q × IsRounded q 24 m s

-- the text is a number, and its value, rounded to 24 places, is further from 0 than 10^13
abbrev pub SpellsBeyond : List ℕ → Type 0
SpellsBeyond text = (m : ℤ) × (s : ℕ) × Spells text m s × (10 ^ 13 * 10 ^ s < unsigned_abs m)

-- the text is no number
abbrev pub SpellsNothing : List ℕ → Type 0
SpellsNothing text = (q : Fraction) → NamesFraction text q → ⊥
