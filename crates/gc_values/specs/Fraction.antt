-- Numbers over a power of ten: their values, their order, their distance and their rounding, half away from zero. The
-- limits of a decimal (24 places, 10^13) and which way a tie is rounded are this project's own.
use Rattle.std.specs.Prelude.{◌≡◌, ◌≢◌, ℕ, ◌*◌, ◌%◌, ◌^◌, ◌<◌, ◌≤◌, ◌==◌, Bool, true, false, not, ◌&&◌, ◌||◌, nat_le, ℤ, pos, negsuc, neg_ℤ, ◌*ℤ◌, ◌-ℤ◌, ◌-◌, ◌≤ℤ◌, ◌<ℤ◌, unsigned_abs}

-- n / 10^k: a whole number of any size, over a power of ten
pub record Fraction : Type 0 where
  pub n : ℤ
  pub k : ℕ

-- whether a number is below 0
abbrev pub is_negative : ℤ → Bool
is_negative (pos n) = false
is_negative (negsuc n) = true

-- the number with this magnitude, with a minus where `negative` is true
abbrev pub signed : (negative : Bool) (magnitude : ℕ) → ℤ
signed false m = pos m
signed true m = neg_ℤ (pos m)

-- m / 10^s and n / 10^k are one value
abbrev pub SameValue : (m : ℤ) (s : ℕ) (n : ℤ) (k : ℕ) → Type 0
SameValue m s n k = m *ℤ pos (10 ^ k) ≡ n *ℤ pos (10 ^ s)

-- the value of a is below that of b
abbrev pub IsBelow : (a b : Fraction) → Type 0
IsBelow a b = (a.n *ℤ pos (10 ^ b.k)) <ℤ (b.n *ℤ pos (10 ^ a.k))

-- m / 10^s has no place more than it needs
abbrev pub IsCanonical : (m : ℤ) (s : ℕ) → Type 0
IsCanonical m s = 0 < s → unsigned_abs m % 10 ≢ 0

-- m / 10^s is at most 10^13 from 0
abbrev pub IsInRange : (m : ℤ) (s : ℕ) → Type 0
IsInRange m s = unsigned_abs m ≤ 10 ^ 13 * 10 ^ s

-- whether m / 10^s is canonical, in range, and has at most 24 places
abbrev pub is_decimal : (m : ℤ) (s : ℕ) → Bool
is_decimal m s = nat_le s 24 && (nat_le (unsigned_abs m) (10 ^ 13 * 10 ^ s) && (s == 0 || not (unsigned_abs m % 10 == 0)))

-- the distance of m / 10^s and n / 10^k, times 10^s and 10^k
abbrev pub distance : (m : ℤ) (s : ℕ) (n : ℤ) (k : ℕ) → ℕ
distance m s n k = unsigned_abs (m *ℤ pos (10 ^ k) -ℤ n *ℤ pos (10 ^ s))

-- m / 10^s is q rounded to p places: m / 10^s has no place more than it needs, and at most p; no other number of at most p places
-- is nearer to q; and where another one is equally near to q, m / 10^s is further from 0 than the other
pub record IsRounded (q : Fraction) (p : ℕ) (m : ℤ) (s : ℕ) : Type 0 where
  pub canonical : IsCanonical m s
  pub places : s ≤ p
  pub near : 2 * distance m s q.n q.k * 10 ^ p ≤ 10 ^ s * 10 ^ q.k
  pub tie : 2 * distance m s q.n q.k * 10 ^ p ≡ 10 ^ s * 10 ^ q.k → unsigned_abs q.n * 10 ^ s < unsigned_abs m * 10 ^ q.k

-- the values a and b are at most the distance c apart; never, where c is below 0
abbrev pub IsWithin : (a b c : Fraction) → Type 0
IsWithin a b c = pos (distance a.n a.k b.n b.k * 10 ^ c.k) ≤ℤ (c.n *ℤ pos (10 ^ a.k * 10 ^ b.k))

-- n / 10^k in units of 10^-24, where k is at most 24
abbrev pub units_of : (n : ℤ) (k : ℕ) → ℤ
units_of n k = n *ℤ pos (10 ^ (24 - k))
