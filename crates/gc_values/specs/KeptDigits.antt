-- No part of a promise: the digits that reading keeps, how the one after them is rounded in, and what rounding gives.
use Rattle.std.specs.Prelude.{◌≡◌, ◌≤◌, ℕ, ◌+◌, ◌-◌, ◌*◌, ◌^◌, List, ◌++◌, length, min, take, nat_le, slice_index_or, if◌then◌else◌}
use Rattle.gc_values.specs.Digits.{number}
use Rattle.gc_values.specs.Nearest.{RoundsHalfUp}
use Rattle.gc_values.specs.declared.numeral.Numeral.{Numeral}

-- all digits of a numeral: those before the point, and then those after it
abbrev pub all_digits : Numeral → List ℕ
all_digits n = n.whole.now ++ n.fraction.now

-- the digit at place i, counted from 0, and 0 after the last one
abbrev pub digit_or_zero : (ds : List ℕ) (i : ℕ) → ℕ
digit_or_zero ds i = slice_index_or ds i 48 - 48

-- the number that the first i digits write, with a zero for each digit that is missing
unfoldable pub kept : (ds : List ℕ) (i : ℕ) → ℕ
kept ds i = number (take i ds) * 10 ^ (i - length ds)

-- what a digit adds to the place before it by rounding: 1 from 5 on, else 0
abbrev pub carry : ℕ → ℕ
carry d = if nat_le 5 d then 1 else 0

-- the number that the first i digits write, as `kept` has it, and 1 more where the digit after them is 5 or above
abbrev pub kept_and_rounded : (ds : List ℕ) (i : ℕ) → ℕ
kept_and_rounded ds i = kept ds i + carry (digit_or_zero ds i)

-- the numeral's magnitude in units of 10^-24, rounded to a whole number, is m
abbrev pub RoundsToUnits : (n : Numeral) (m : ℕ) → Type 0
RoundsToUnits n m = RoundsHalfUp (number (all_digits n) * 10 ^ n.up * 10 ^ 24) (10 ^ (length n.fraction.now + n.down)) m

-- the numeral's magnitude, rounded to 24 places, is m / 10^p for some m, and `units` is m, or the cap where m is above it
pub record IsRoundedWithCap (n : Numeral) (cap units p : ℕ) : Type 0 where
  pub m : ℕ
  pub rounds : RoundsToUnits n (m * 10 ^ (24 - p))
  pub capped : units ≡ min cap m
  pub places : p ≤ 24
