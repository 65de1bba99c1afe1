-- A decimal's value, its order, its rounding and its texts. Which way a tie is rounded is this project's own.
use Rattle.std.specs.Prelude.{◌≡◌, ℕ, List, Result, Ok, IsTrue, ◌*◌, ◌^◌, ◌==◌, ◌&&◌, Bool, ℤ, pos, ◌*ℤ◌, int_le, unsigned_abs}
use Rattle.std.specs.Ordering.{int_cmp, int_eq, on}
use Rattle.std.specs.declared.cmp.Ordering.{Ordering}
use Rattle.gc_values.specs.Fraction.{Fraction, is_decimal, signed, is_negative, distance, units_of}
use Rattle.gc_values.specs.Nearest.{rounded_to}
use Rattle.gc_values.specs.Spelling.{Spells}
use Rattle.gc_values.specs.Written.{written}
use Rattle.gc_values.specs.declared.decimal.Decimal.{Decimal}
use Rattle.gc_values.specs.RoundedFacts.{decimal_few, decimal_in_range, decimal_canonical, zero_few, zero_in_range, zero_canonical, rounded_few, rounded_in_range, rounded_canonical}

-- the decimal's value
abbrev pub fraction : Decimal → Fraction
fraction d = record { n = d.digits; k = d.scale }

-- the decimal with these digits and this scale, which pass the test `is_decimal`
abbrev pub decimal : (m : ℤ) (s : ℕ) → IsTrue (is_decimal m s) → Decimal
decimal m s h = record {
  digits = m;
  scale = s;
  has_few_places = decimal_few m s h;
  is_in_range = decimal_in_range m s h;
  is_canonical = decimal_canonical m s h;
}

-- the decimal 0.0
abbrev pub zero : Decimal
zero = record { digits = pos 0; scale = 0; has_few_places = zero_few; is_in_range = zero_in_range; is_canonical = zero_canonical }

-- the decimal rounded to at most p places, half away from zero, as the law `rounded_is_the_rounding` says
unfoldable pub rounded : (d : Decimal) → (p : ℕ) → Decimal
rounded d p = record {
  digits = signed (is_negative d.digits) (rounded_to (unsigned_abs d.digits) d.scale p).digits;
  scale = (rounded_to (unsigned_abs d.digits) d.scale p).places;
  has_few_places = rounded_few (unsigned_abs d.digits) d.scale p d.has_few_places;
  is_in_range = rounded_in_range (is_negative d.digits) (unsigned_abs d.digits) d.scale p d.is_in_range;
  is_canonical = rounded_canonical (is_negative d.digits) (unsigned_abs d.digits) d.scale p;
}

-- the value in units of 10^-24, which is a whole number
abbrev pub units : Decimal → ℤ
units d = units_of d.digits d.scale

-- what `==` returns: whether digits and scale are the same
abbrev pub decimal_eq : (a b : Decimal) → Bool
decimal_eq a b = int_eq a.digits b.digits && (a.scale == b.scale)

-- how two decimals compare: as their values do
abbrev pub decimal_cmp : Decimal → Decimal → Ordering
decimal_cmp = on units int_cmp

-- whether a and b are at most the distance `area` apart; never, where `area` is below zero
unfoldable pub is_within : (a b area : Decimal) → Bool
is_within a b area =
    int_le (pos (distance a.digits a.scale b.digits b.scale * 10 ^ area.scale)) (area.digits *ℤ pos (10 ^ a.scale * 10 ^ b.scale))

-- the text spells the decimal, as `Spells` has it
abbrev pub SpellsDecimal : (text : List ℕ) → Decimal → Type 0
SpellsDecimal text d = Spells text d.digits d.scale

-- the one text that is written of a decimal
abbrev pub decimal_text : Decimal → List ℕ
decimal_text d = written d.digits d.scale

-- where the text spells a decimal, the result is this decimal
abbrev pub GivesSpelled : {E : Type 0} → (text : List ℕ) → Result Decimal E → Type 0
GivesSpelled text result = (d : Decimal) → SpellsDecimal text d → result ≡ Ok d
