-- A quotient a / b has one nearest whole number, of two that are equally near the greater one (`RoundsHalfUp`). A gap is how far
-- two numbers are apart.
use Rattle.gc_values.proofs.Common.{◌≡◌, ℕ, ◌+◌, ◌-◌, ◌*◌, ◌<◌, ◌≤◌, sym, ◌∙◌, ap, subst, inl, inr, arith, mul-le-mul_right, le_of_mul-le-mul_right, lt_of_mul-lt-mul_left, eq_of_mul-eq-mul_left, mul-lt-mul_of_pos_left, cases_lt, cases_order}
pub use Rattle.gc_values.specs.Nearest.{gap, RoundsHalfUp}

-- the gap of multiples is the multiple of the gap, where the second is at least the first
gap-mul_up : (a t c : ℕ) → gap (a * c) ((a + t) * c) ≡ gap a (a + t) * c
gap-mul_up a t c = let l : gap (a * c) ((a + t) * c) ≡ t * c = omega arith in let r : gap a (a + t) ≡ t = omega arith in l ∙ ap (λ x. x * c) (sym r)

-- a gap is the same from either side
pub gap_comm : (a b : ℕ) → gap a b ≡ gap b a
gap_comm a b = omega arith

-- the gap of multiples is the multiple of the gap
pub gap-mul : (a b c : ℕ) → gap (a * c) (b * c) ≡ gap a b * c
gap-mul a b c = elim (cases_lt a b) [
  | inl lt ↦ let e : a + (b - a) ≡ b = omega arith in subst (λ x. gap (a * c) (x * c) ≡ gap a x * c) e (gap-mul_up a (b - a) c)
  | inr ge ↦
      let e : b + (a - b) ≡ a = omega arith in
      gap_comm (a * c) (b * c) ∙ subst (λ x. gap (b * c) (x * c) ≡ gap b x * c) e (gap-mul_up b (a - b) c) ∙ ap (λ x. x * c) (gap_comm b a)
]

-- if a / b and c / d are one value, and b and d are above 0, what a / b rounds to, c / d rounds to
pub rounds_same_value : (a b c d m : ℕ) → 0 < b → 0 < d → a * d ≡ c * b → RoundsHalfUp a b m → RoundsHalfUp c d m
rounds_same_value a b c d m b_pos d_pos same r =
    let shuffled : m * d * b ≡ m * b * d = omega arith in
    let turned : gap c (m * d) * b ≡ gap a (m * b) * d =
    sym (gap-mul c (m * d) b) ∙ ap (λ x. gap x (m * d * b)) (sym same) ∙ ap (gap (a * d)) shuffled ∙ gap-mul a (m * b) d in
    record {
      near = le_of_mul-le-mul_right {m = 2 * gap c (m * d)} {n = d} {k = b} (omega (arith, turned, mul-le-mul_right {m = 2 * gap a (m * b)} {n = b} d r.near)) b_pos;
      tie = λ h.
          let there : 2 * gap a (m * b) ≡ b = eq_of_mul-eq-mul_left d d_pos _ _ (omega (arith, turned, ap (λ x. x * b) h)) in
          lt_of_mul-lt-mul_left b (omega (arith, shuffled, same, mul-lt-mul_of_pos_left {m = a} {n = m * b} {k = d} (r.tie there) d_pos));
    }

-- if a / b, for b above 0, rounds to m, as `RoundsHalfUp` has it, it rounds to no greater number n
no_greater : (a b m n : ℕ) → 0 < b → m < n → RoundsHalfUp a b m → RoundsHalfUp a b n → ⊥
no_greater a b m n pos lt r s =
    let apart : b + m * b ≤ n * b = omega (arith, mul-le-mul_right {m = m + 1} {n = n} b (omega arith)) in
    let near : 2 * gap a (m * b) ≤ b = r.near in
    let tie : 2 * gap a (m * b) ≡ b → a < m * b = r.tie in
    let near' : 2 * gap a (n * b) ≤ b = s.near in
    omega arith

-- a / b, for b above 0, rounds to at most one number, as `RoundsHalfUp` has it
pub rounds_once : (a b m n : ℕ) → 0 < b → RoundsHalfUp a b m → RoundsHalfUp a b n → m ≡ n
rounds_once a b m n pos r s = elim (cases_order m n) [
  | inl same ↦ same
  | inr apart ↦ elim apart [
    | inl below ↦ absurd (no_greater a b m n pos below r s)
    | inr above ↦ absurd (no_greater a b n m pos above s r)
  ]
]

-- m * b over b, for b above 0, rounds to m
pub rounds_whole : (m b : ℕ) → 0 < b → RoundsHalfUp (m * b) b m
rounds_whole m b pos = record { near = omega arith; tie = λ h. absurd (omega arith) }

-- a / b, for b above 0, rounds to 0 where it is less than a half
pub rounds_to_zero : (a b : ℕ) → 0 < b → 2 * a < b → RoundsHalfUp a b 0
rounds_to_zero a b pos small = record { near = omega arith; tie = λ h. absurd (omega arith) }

-- m * (10 * u) + (d * u + r) over 10 * u, where d is below 5 and r below u, rounds to m: the first digit after the place, d, is
-- rounded down
pub rounds_down : (m d u r : ℕ) → d < 5 → r < u → RoundsHalfUp (m * (10 * u) + (d * u + r)) (10 * u) m
rounds_down m d u r small rest =
    let part : d * u + u ≤ 5 * u = omega (arith, mul-le-mul_right {m = d + 1} {n = 5} u (omega arith)) in
    record { near = omega arith; tie = λ h. absurd (omega arith) }

-- m * (10 * u) + (d * u + r) over 10 * u, where d is from 5 to 9 and r below u, rounds to m + 1: the first digit after the place,
-- d, is rounded up
pub rounds_up : (m d u r : ℕ) → 5 ≤ d → d < 10 → r < u → RoundsHalfUp (m * (10 * u) + (d * u + r)) (10 * u) (m + 1)
rounds_up m d u r large digit rest =
    let part : 5 * u ≤ d * u = mul-le-mul_right {m = 5} {n = d} u large in
    let most : d * u + u ≤ 10 * u = omega (arith, mul-le-mul_right {m = d + 1} {n = 10} u (omega arith)) in
    record { near = omega arith; tie = λ h. omega arith }
