-- No part of a promise: the facts that a rounded decimal keeps, which are in the decimal itself.
use Rattle.std.proofs.Common.{◌≡◌, ℕ, zero, suc, ◌+◌, ◌-◌, ◌*◌, ◌/◌, ◌%◌, ◌^◌, ◌<◌, ◌≤◌, Bool, true, false, cond, not, ◌&&◌, ◌||◌, ◌==◌, nat_le, min, ℤ, pos, unsigned_abs, refl, sym, ap, ◌∙◌, subst, inl, inr, arith, lit<, lit≤}
use Rattle.std.proofs.Math.Nat.{pow-suc, one-le-pow, div-add-mod', mod-lt, mul-le-mul_right, le_of_mul-le-mul_right}
use Rattle.std.proofs.lemmas.Nat.{pow-add}
use Rattle.std.proofs.lemmas.Bool.Decides.{eqb_tells}
use Rattle.std.proofs.lemmas.Bool.{cases_lt}
use Rattle.std.specs.Cmp.{first_so, second_so}
use borrow.Author.Tests.{leb-true, eq-eqb}
use Rattle.gc_values.specs.Fraction.{signed, is_decimal, IsCanonical, IsInRange}
use Rattle.gc_values.specs.Nearest.{gap, RoundsHalfUp, half_up, rounded_to}
use Rattle.gc_values.specs.Zeros.{WithoutZeros, Placed, stripped}

-- for m that ends in a zero: where (m / 10) / 10^s is the value n / 10^t, m / 10^(s+1) is that value, too
zero_back : (m s n t : ℕ) → m % 10 ≡ 0 → (m / 10) * 10 ^ t ≡ n * 10 ^ s → m * 10 ^ t ≡ n * 10 ^ suc s
zero_back m s n t whole same =
    let ten : m ≡ 10 * (m / 10) = omega arith in
    omega (arith, same, pow-suc 10 s, ap (λ x. n * x) (pow-suc 10 s), ap (λ x. x * 10 ^ t) ten)

-- for m that ends in a zero: where n / 10^t is (m / 10) / 10^s without the zeros at its end, it is m / 10^(s+1) without them, too
zeros_one_more : (m s n t : ℕ) → m % 10 ≡ 0 → WithoutZeros (m / 10) s n t → WithoutZeros m (suc s) n t
zeros_one_more m s n t whole w = record { same = zero_back m s n t whole w.same; fewer = let f = w.fewer in omega (arith, f); canonical = w.canonical }

-- r is m / 10^s without the zeros at its end
abbrev pub IsStripped : (m s : ℕ) → (r : Placed) → Type 0
IsStripped m s r = WithoutZeros m s r.digits r.places

-- `stripped` takes off the zeros at the end, and changes no value
pub stripped_is : (m s : ℕ) → IsStripped m s (stripped m s)
stripped_is m zero = record { same = refl; fewer = omega arith; canonical = λ h. absurd (omega arith) }
stripped_is m (suc s) = elim (eqb_tells (m % 10) 0) [
  | inl whole ↦
      subst (IsStripped m (suc s)) (ap (λ b. cond b (stripped (m / 10) s) (record { digits = m; places = suc s })) (sym whole.0))
      (zeros_one_more m s (stripped (m / 10) s).digits (stripped (m / 10) s).places whole.1 (stripped_is (m / 10) s))
  | inr part ↦
      subst (IsStripped m (suc s)) (ap (λ b. cond b (stripped (m / 10) s) (record { digits = m; places = suc s })) (sym part.0))
      (record { same = refl; fewer = omega arith; canonical = λ _. part.1 })
]

-- for b above 0: where 2a + b is m times 2b and a remainder r, m is the whole number nearest to a / b, as `RoundsHalfUp` has it
quotient_rounds : (a b m r : ℕ) → 0 < b → m * (2 * b) + r ≡ 2 * a + b → r < 2 * b → RoundsHalfUp a b m
quotient_rounds a b m r some whole rest = record { near = omega arith; tie = λ h. omega arith }

-- `half_up a b` is the whole number nearest to a / b, for b above 0, as `RoundsHalfUp` has it
pub half_up_rounds : (a b : ℕ) → 0 < b → RoundsHalfUp a b (half_up a b)
half_up_rounds a b some = quotient_rounds a b (half_up a b) ((2 * a + b) % (2 * b)) some (div-add-mod' (2 * a + b) (2 * b)) (mod-lt (2 * a + b) (omega arith))

-- for b above 0: where a is at most n times b, a / b rounds to at most n
pub rounds_bound : (a b m n : ℕ) → 0 < b → RoundsHalfUp a b m → a ≤ n * b → m ≤ n
rounds_bound a b m n some r h =
    let near : 2 * gap a (m * b) ≤ b = r.near in
    let tie : 2 * gap a (m * b) ≡ b → a < m * b = r.tie in
    elim (cases_lt n m) [
      | inl above ↦
          let more : n * b + b ≤ m * b = omega (arith, mul-le-mul_right {m = n + 1} {n = m} b (omega arith)) in
          absurd (omega arith)
      | inr within ↦ within
    ]

-- a power of ten is above 0
pub ten_pow_pos : (k : ℕ) → 0 < 10 ^ k
ten_pow_pos k = one-le-pow k 10 (lit< tt)

-- the number that `signed` makes of a magnitude has this magnitude
pub unsigned_abs-signed : (b : Bool) (m : ℕ) → unsigned_abs (signed b m) ≡ m
unsigned_abs-signed false m = refl
unsigned_abs-signed true zero = refl
unsigned_abs-signed true (suc m) = refl

-- a number in range stays so without the zeros at its end
pub zeros_in_range : (m s n t : ℕ) → WithoutZeros m s n t → m ≤ 10 ^ 13 * 10 ^ s → n ≤ 10 ^ 13 * 10 ^ t
zeros_in_range m s n t w h =
    le_of_mul-le-mul_right {m = n} {n = 10 ^ 13 * 10 ^ t} {k = 10 ^ s} (omega (arith, w.same, mul-le-mul_right {m = m} {n = 10 ^ 13 * 10 ^ s} (10 ^ t) h)) (ten_pow_pos s)

-- 10^s is cut in two factors at p, for p at most s
pub ten_pow_cut : (p s : ℕ) → p ≤ s → 10 ^ p * 10 ^ (s - p) ≡ 10 ^ s
ten_pow_cut p s within = let back : p + (s - p) ≡ s = omega arith in sym (pow-add 10 p (s - p)) ∙ ap (λ e. 10 ^ e) back

-- where a / 10^s is in range and p is at most s, a is at most 10^13 * 10^p * 10^(s - p): the bound, with 10^s cut in two at p
pub places_in_range : (a s p : ℕ) → p ≤ s → a ≤ 10 ^ 13 * 10 ^ s → a ≤ 10 ^ 13 * 10 ^ p * 10 ^ (s - p)
places_in_range a s p places h =
    omega (arith, h, ten_pow_cut p s places)

-- `rounded_to` gives the nearest whole number to m / 10^(s - p), over 10^s or 10^p, whichever is less, without the zeros at its
-- end
pub rounded_to_is : (m s p : ℕ) → IsStripped (half_up m (10 ^ (s - p))) (min s p) (rounded_to m s p)
rounded_to_is m s p = stripped_is (half_up m (10 ^ (s - p))) (min s p)

-- a number of at most 24 places has at most 24 when it is rounded
pub rounded_few : (m s p : ℕ) → s ≤ 24 → (rounded_to m s p).places ≤ 24
rounded_few m s p h = let w = (rounded_to_is m s p).fewer in omega (arith, w)

-- a number in range stays so when it is rounded
pub rounded_in_range : (b : Bool) (m s p : ℕ) → m ≤ 10 ^ 13 * 10 ^ s → IsInRange (signed b (rounded_to m s p).digits) (rounded_to m s p).places
rounded_in_range b m s p h =
    let size : m ≤ 10 ^ 13 * 10 ^ min s p * 10 ^ (s - p) =
    subst (λ e. m ≤ 10 ^ 13 * 10 ^ min s p * 10 ^ e) (let off : s - min s p ≡ s - p = omega arith in off) (places_in_range m s (min s p) (omega arith) h) in
    let near = half_up_rounds m (10 ^ (s - p)) (ten_pow_pos (s - p)) in
    let whole = rounds_bound m (10 ^ (s - p)) (half_up m (10 ^ (s - p))) (10 ^ 13 * 10 ^ min s p) (ten_pow_pos (s - p)) near size in
    let all = zeros_in_range (half_up m (10 ^ (s - p))) (min s p) (rounded_to m s p).digits (rounded_to m s p).places (rounded_to_is m s p) whole in
    subst (λ n. n ≤ 10 ^ 13 * 10 ^ (rounded_to m s p).places) (sym (unsigned_abs-signed b (rounded_to m s p).digits)) all

-- a rounded number has no place more than it needs
pub rounded_canonical : (b : Bool) (m s p : ℕ) → IsCanonical (signed b (rounded_to m s p).digits) (rounded_to m s p).places
rounded_canonical b m s p some divides =
    (rounded_to_is m s p).canonical some (ap (λ n. n % 10) (sym (unsigned_abs-signed b (rounded_to m s p).digits)) ∙ divides)

-- 0.0 has at most 24 places
pub zero_few : 0 ≤ 24
zero_few = lit≤ tt

-- 0.0 is in range
pub zero_in_range : IsInRange (pos 0) 0
zero_in_range = lit≤ tt

-- 0.0 has no place more than it needs
pub zero_canonical : IsCanonical (pos 0) 0
zero_canonical below = absurd (omega arith)

-- From the test `is_decimal` to the facts that a decimal holds.

-- where the test `is_decimal` holds, there are at most 24 places
pub decimal_few : (m : ℤ) (s : ℕ) → is_decimal m s ≡ true → s ≤ 24
decimal_few m s h = leb-true s 24 (first_so (nat_le s 24) (nat_le (unsigned_abs m) (10 ^ 13 * 10 ^ s) && (s == 0 || not (unsigned_abs m % 10 == 0))) h)

-- where the test `is_decimal` holds, what it tests after the number of places holds
rest_of_test : (m : ℤ) (s : ℕ) → is_decimal m s ≡ true
    → (nat_le (unsigned_abs m) (10 ^ 13 * 10 ^ s) && (s == 0 || not (unsigned_abs m % 10 == 0))) ≡ true
rest_of_test m s h = second_so (nat_le s 24) (nat_le (unsigned_abs m) (10 ^ 13 * 10 ^ s) && (s == 0 || not (unsigned_abs m % 10 == 0))) h

-- where the test `is_decimal` holds, the value is in range
pub decimal_in_range : (m : ℤ) (s : ℕ) → is_decimal m s ≡ true → IsInRange m s
decimal_in_range m s h =
    leb-true (unsigned_abs m) (10 ^ 13 * 10 ^ s)
    (first_so (nat_le (unsigned_abs m) (10 ^ 13 * 10 ^ s)) (s == 0 || not (unsigned_abs m % 10 == 0)) (rest_of_test m s h))

-- a number of places above 0 fails the test for 0
some_places : (s : ℕ) → 0 < s → (s == 0) ≡ false
some_places s some = elim (eqb_tells s 0) [ inl none ↦ absurd (let e = none.1 in omega (arith, e)) | inr more ↦ more.0 ]

-- where the test `a || not b` holds and a doesn't, b doesn't either
or_not_excludes : (a b : Bool) → (a || not b) ≡ true → a ≡ false → b ≡ true → ⊥
or_not_excludes true b h e f = absurd (cc)
or_not_excludes false true h e f = absurd (cc)
or_not_excludes false false h e f = absurd (cc)

-- where the test `is_decimal` holds, there is no place more than the value needs
pub decimal_canonical : (m : ℤ) (s : ℕ) → is_decimal m s ≡ true → IsCanonical m s
decimal_canonical m s h some divides =
    let last = second_so (nat_le (unsigned_abs m) (10 ^ 13 * 10 ^ s)) (s == 0 || not (unsigned_abs m % 10 == 0)) (rest_of_test m s h) in
    or_not_excludes (s == 0) (unsigned_abs m % 10 == 0) last (some_places s some) (eq-eqb (unsigned_abs m % 10) 0 divides)
