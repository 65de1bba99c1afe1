-- A decimal moved by units of 10^-24, and the generator whose numbers make the noise: this project's own.
use Rattle.gc_scenes.specs.Common.{units, is_negative, signed, stripped, Decimal}
use Rattle.std.specs.Prelude.{◌≡◌, refl, ℕ, ℤ, ◌+◌, ◌*◌, ◌/◌, ◌%◌, ◌^◌, ◌==◌, ◌+ℤ◌, Bool, true, false, nat_le, unsigned_abs}
use Rattle.gc_scenes.specs.ShiftedFacts.{stripped_has_few_places, stripped_is_in_range, stripped_is_canonical}

-- whether z units of 10^-24 are in a decimal's range
abbrev pub are_in_range : ℤ → Bool
are_in_range z = nat_le (unsigned_abs z) (10 ^ 13 * 10 ^ 24)

-- the decimal of z units of 10^-24 if these are in range (`fits`), and else `d`
abbrev pub of_units : (fits : Bool) (z : ℤ) → are_in_range z ≡ fits → (d : Decimal) → Decimal
of_units true z h d = record {
  digits = signed (is_negative z) (stripped (unsigned_abs z) 24).digits;
  scale = (stripped (unsigned_abs z) 24).places;
  has_few_places = stripped_has_few_places (unsigned_abs z);
  is_in_range = stripped_is_in_range (is_negative z) (unsigned_abs z) h;
  is_canonical = stripped_is_canonical (is_negative z) (unsigned_abs z);
}
of_units false z h d = d

-- the decimal plus z units of 10^-24, exactly; if the sum is out of a decimal's range, it is the decimal itself
unfoldable pub shifted : Decimal → ℤ → Decimal
shifted d z = of_units (are_in_range (units d +ℤ z)) (units d +ℤ z) refl d

-- the generator's number after x, from 0 to 2^32 - 1
abbrev pub next : ℕ → ℕ
next x = (x * 1664525 + 1013904223) % 4294967296

-- the deviation that the generator's number x gives, in units of 10^-24: it has a minus, unless it is 0, if bit 16 of x is 1, and
-- the bits from 17 on, modulo 1001, are how many thousandths of `most` it has; the sign of `most` doesn't count, and a thousandth
-- is rounded down to whole units
abbrev pub deviation : (most : Decimal) → (x : ℕ) → ℤ
deviation most x = signed ((x / 65536) % 2 == 1) (unsigned_abs (units most) / 1000 * ((x / 131072) % 1001))
