-- The number that a text spells, computed: this project's own. `specs/Spelling` of gc_values says which texts spell which numbers, and a law
-- that this finds just these.
use Rattle.gc_texts.specs.Common.{SpellsDecimal, number, is_decimal, signed, half_up, Placed, stripped, Decimal}
use Rattle.std.specs.Prelude.{◌≡◌, ◌↔◌, ℕ, ◌+◌, ◌*◌, ◌^◌, ◌==◌, ◌&&◌, ◌||◌, Bool, true, false, nat_le, nat_lt, List, [], ◌∷◌, ◌++◌, length, Option, None, Some, ℤ, if◌then◌else◌}
use Rattle.std.proofs.Common.{refl}
use Rattle.gc_values.specs.Prelude.{decimal}

-- whether a text begins with a minus
abbrev pub begins_with_minus : List ℕ → Bool
begins_with_minus [] = false
begins_with_minus (b ∷ bs) = b == 45

-- a text without a plus or a minus at its front
abbrev pub behind_sign : List ℕ → List ℕ
behind_sign [] = []
behind_sign (b ∷ bs) = if (b == 43) || (b == 45) then bs else b ∷ bs

-- whether a byte is a digit
abbrev pub is_digit : ℕ → Bool
is_digit b = nat_le 48 b && nat_le b 57

-- the digits at the front of a text
abbrev pub digits_at : List ℕ → List ℕ
digits_at [] = []
digits_at (b ∷ bs) = if is_digit b then b ∷ digits_at bs else []

-- what follows the digits at the front of a text
abbrev pub behind_digits : List ℕ → List ℕ
behind_digits [] = []
behind_digits (b ∷ bs) = if is_digit b then behind_digits bs else b ∷ bs

-- the digits behind a point at the front of a text; none without a point
abbrev pub places_at : List ℕ → List ℕ
places_at [] = []
places_at (b ∷ bs) = if b == 46 then digits_at bs else []

-- what follows a point at the front of a text, and the digits behind it
abbrev pub behind_places : List ℕ → List ℕ
behind_places [] = []
behind_places (b ∷ bs) = if b == 46 then behind_digits bs else b ∷ bs

-- how often a text's exponent multiplies by ten, and how often it divides
pub record Tens : Type 0 where
  pub ups : ℕ
  pub downs : ℕ

-- the exponent of these digits, with a minus where `negative` is true: from one to three, and nothing else
abbrev pub tens_of : (negative : Bool) → (digits : List ℕ) → Option Tens
tens_of negative digits =
    if nat_lt 0 (length digits) && (nat_le (length digits) 3 && (length (behind_digits digits) == 0))
    then Some (record { ups = if negative then 0 else number digits; downs = if negative then number digits else 0 }) else None

-- the exponent that a text is, or 0 where it is empty
abbrev pub exponent_at : List ℕ → Option Tens
exponent_at [] = Some (record { ups = 0; downs = 0 })
exponent_at (b ∷ bs) = if (b == 69) || (b == 101) then tens_of (begins_with_minus bs) (behind_sign bs) else None

-- the decimal m / 10^s, if it is one
abbrev pub if_decimal : (m : ℤ) (s : ℕ) (b : Bool) → is_decimal m s ≡ b → Option Decimal
if_decimal m s true is = Some (decimal m s is)
if_decimal m s false isnt = None

-- a / 10^k, with a minus where `negative` is true, rounded to 24 places, if that is a decimal
abbrev pub rounded_if : (negative : Bool) (a k : ℕ) → Option Decimal
rounded_if negative a k =
    let r : Placed = stripped (half_up (a * 10 ^ 24) (10 ^ k)) 24 in
    if_decimal (signed negative r.digits) r.places (is_decimal (signed negative r.digits) r.places) refl

-- the number with these digits before and behind the point, and this exponent, if there is a digit and an exponent
abbrev pub numeral_if : (negative : Bool) (whole places : List ℕ) → Option Tens → Option Decimal
numeral_if negative whole places None = None
numeral_if negative whole places (Some tens) =
    if nat_lt 0 (length whole + length places)
    then rounded_if negative (number (whole ++ places) * 10 ^ tens.ups) (length places + tens.downs) else None

-- the number of a text without its sign
abbrev pub unsigned_in : (negative : Bool) → List ℕ → Option Decimal
unsigned_in negative text =
    numeral_if negative (digits_at text) (places_at (behind_digits text)) (exponent_at (behind_places (behind_digits text)))

-- the decimal that a text spells, if it spells one: a sign, digits with a point among, before or behind them, and an exponent
unfoldable pub decimal_in : List ℕ → Option Decimal
decimal_in text = unsigned_in (begins_with_minus text) (behind_sign text)

-- `decimal_in` is what a text spells
abbrev pub DecimalsAreSpelled : Type 0
DecimalsAreSpelled = (text : List ℕ) (d : Decimal) → (decimal_in text ≡ Some d) ↔ SpellsDecimal text d
