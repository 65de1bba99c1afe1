-- The number that the first i digits of a text write, `kept`, with zeros for those that are missing; that number with the next
-- digit rounded in, `kept_and_rounded`; and numbers that are cut off at a cap, which is `min cap`.
use Rattle.gc_values.proofs.Common.{◌≡◌, ℕ, ◌+◌, ◌-◌, ◌*◌, ◌^◌, ◌<◌, ◌≤◌, List, [], ◌∷◌, ◌++◌, length, get_or, take, drop, refl, sym, ◌∙◌, ap, subst, inl, inr, arith, add-one, length-append, drop-cons, min, zero, suc, lit<, mul-le-mul_right, mul-le-mul_left, one-le-pow, pow-suc, mul_comm, take-suc, get_or-append_right, pow-add, take_all, get_or_default, get_or_past, take-append-drop, length-take-le, nat_tests, cases_lt, IsDigit, AreDigits, number, digit_or_zero, kept, carry, kept_and_rounded}
use Rattle.std.proofs.Math.ListN.{get_or-append}
use Rattle.gc_values.proofs.Every.{every_at, every_take, every_drop}
use Rattle.gc_values.proofs.Powers.{ten_pow_le}
use Rattle.gc_values.proofs.Rounding.{RoundsHalfUp, rounds_same_value, rounds_whole, rounds_down, rounds_up}

-- the number that the digits xs and then ys write is that of xs, times ten for each digit of ys, plus that of ys
pub number-append : (xs ys : List ℕ) → number (xs ++ ys) ≡ number xs * 10 ^ length ys + number ys
number-append [] ys = omega arith
number-append (x ∷ xs) ys =
    let place : 10 ^ length (xs ++ ys) ≡ 10 ^ length xs * 10 ^ length ys = ap (λ n. 10 ^ n) (length-append xs ys) ∙ pow-add 10 (length xs) (length ys) in
    omega (arith, number-append xs ys, ap (λ p. (x - 48) * p) place)

-- the number of n digits is below 10^n
pub number-lt : (ds : List ℕ) → AreDigits ds → number ds < 10 ^ length ds
number-lt [] h = omega arith
number-lt (b ∷ bs) h =
    let most : (b - 48) * 10 ^ length bs ≤ 9 * 10 ^ length bs = mul-le-mul_right {m = b - 48} {n = 9} (10 ^ length bs) (omega arith) in
    omega (arith, number-lt bs h.1, most, pow-suc 10 (length bs))

-- the first 0 digits write 0
pub kept_none : (ds : List ℕ) → kept ds 0 ≡ 0
unfolding kept
kept_none ds = omega arith

-- if there are at least i digits, `kept` is the number that the first i write
kept_within : (ds : List ℕ) (i : ℕ) → i ≤ length ds → kept ds i ≡ number (take i ds)
unfolding kept
kept_within ds i h = let e : i - length ds ≡ 0 = omega arith in rw e (omega arith)

-- if there are at most i digits, `kept` is the number that all write, with a zero after it for each that is missing
kept_past : (ds : List ℕ) (i : ℕ) → length ds ≤ i → kept ds i ≡ number ds * 10 ^ (i - length ds)
unfolding kept
kept_past ds i h = rw (take_all i ds h) refl

-- `kept` of the first i + 1 digits is ten times that of the first i, plus the digit at place i, which is 0 after the last one
pub kept_more : (ds : List ℕ) (i : ℕ) → kept ds (i + 1) ≡ kept ds i * 10 + digit_or_zero ds i
kept_more ds i = elim (cases_lt i (length ds)) [
  | inl inside ↦
      let pushed : take (i + 1) ds ≡ take i ds ++ (get_or ds i 48 ∷ []) = rw add-one (take-suc ds i 48 inside) in
      omega (arith, kept_within ds (i + 1) (omega arith), kept_within ds i (omega arith), ap number pushed, number-append (take i ds) (get_or ds i 48 ∷ []))
  | inr past ↦
      let more : i + 1 - length ds ≡ suc (i - length ds) = omega arith in
      let power : 10 ^ (i + 1 - length ds) ≡ 10 ^ (i - length ds) * 10 = ap (λ n. 10 ^ n) more ∙ pow-suc 10 (i - length ds) in
      omega (arith, kept_past ds (i + 1) (omega arith), kept_past ds i past, ap (λ p. number ds * p) power, get_or_past ds i 48 past)
]

-- for digits xs, then the digit c, then digits ys: with a point before c they write a number that, rounded to a whole one, is the
-- number of xs where c is below 5, and 1 more where c is 5 or above
rounds_at_point : (xs : List ℕ) (c : ℕ) (ys : List ℕ) (m : ℕ) → AreDigits (c ∷ ys) → (c - 48 < 5 → m ≡ number xs) → (5 ≤ c - 48 → m ≡ number xs + 1) →
    RoundsHalfUp (number (xs ++ c ∷ ys) * 10 ^ length xs) (10 ^ length (xs ++ c ∷ ys)) m
rounds_at_point xs c ys m digits is_low is_high =
    let u : ℕ = 10 ^ length ys in
    let power : 10 ^ length (c ∷ ys) ≡ 10 * u = pow-suc 10 (length ys) ∙ mul_comm u 10 in
    let whole : number (xs ++ c ∷ ys) ≡ number xs * (10 * u) + ((c - 48) * u + number ys) = number-append xs (c ∷ ys) ∙ ap (λ p. number xs * p + ((c - 48) * u + number ys)) power in
    let size : 10 ^ length (xs ++ c ∷ ys) ≡ 10 ^ length xs * (10 * u) = ap (λ n. 10 ^ n) (length-append xs (c ∷ ys)) ∙ pow-add 10 (length xs) (length (c ∷ ys)) ∙ ap (λ p. 10 ^ length xs * p) power in
    let small : number ys < u = number-lt ys digits.1 in
    let pos_u : 1 ≤ u = one-le-pow (length ys) 10 (lit< tt) in
    let pos_x : 1 ≤ 10 ^ length xs = one-le-pow (length xs) 10 (lit< tt) in
    let here : RoundsHalfUp (number xs * (10 * u) + ((c - 48) * u + number ys)) (10 * u) m =
    elim (cases_lt (c - 48) 5) [
      | inl low ↦ subst (λ m. RoundsHalfUp (number xs * (10 * u) + ((c - 48) * u + number ys)) (10 * u) m) (sym (is_low low)) (rounds_down (number xs) (c - 48) u (number ys) low small)
      | inr high ↦ subst (λ m. RoundsHalfUp (number xs * (10 * u) + ((c - 48) * u + number ys)) (10 * u) m) (sym (is_high high)) (rounds_up (number xs) (c - 48) u (number ys) high (omega arith) small)
    ] in
    rounds_same_value _ (10 * u) _ _ m (omega arith) (one-le-pow (length (xs ++ c ∷ ys)) 10 (lit< tt)) (rw (size, whole) (omega arith)) here

-- `carry` of a digit below 5 is 0
carry-low : (d : ℕ) → d < 5 → carry d ≡ 0
carry-low d h = grind (arith, nat_tests)

-- `carry` of a digit from 5 on is 1
carry-high : (d : ℕ) → 5 ≤ d → carry d ≡ 1
carry-high d h = grind (arith, nat_tests)

-- for digits after a point: their value times 10^k, rounded to a whole number, is `kept_and_rounded` of the first k
pub rounds_digits : (ds : List ℕ) (k : ℕ) → AreDigits ds → RoundsHalfUp (number ds * 10 ^ k) (10 ^ length ds) (kept_and_rounded ds k)
rounds_digits ds k digits = elim (cases_lt k (length ds)) [
  | inl inside ↦
      let c : ℕ = get_or ds k 48 in
      let behind : drop k ds ≡ c ∷ drop (suc k) ds = drop-cons ds k 48 inside in
      let split : take k ds ++ c ∷ drop (suc k) ds ≡ ds = ap (λ ys. take k ds ++ ys) (sym behind) ∙ take-append-drop k ds in
      let front : length (take k ds) ≡ k = length-take-le k ds (omega arith) in
      let within : kept ds k ≡ number (take k ds) = kept_within ds k (omega arith) in
      let digits' : AreDigits (c ∷ drop (suc k) ds) = subst AreDigits behind (every_drop IsDigit ds k digits) in
      let there : RoundsHalfUp (number (take k ds ++ c ∷ drop (suc k) ds) * 10 ^ length (take k ds)) (10 ^ length (take k ds ++ c ∷ drop (suc k) ds)) (kept_and_rounded ds k) =
      rounds_at_point (take k ds) c (drop (suc k) ds) (kept_and_rounded ds k) digits'
      (λ low. omega (arith, within, carry-low (c - 48) low)) (λ high. omega (arith, within, carry-high (c - 48) high)) in
      subst (λ n. RoundsHalfUp (number ds * 10 ^ n) (10 ^ length ds) (kept_and_rounded ds k)) front
      (subst (λ es. RoundsHalfUp (number es * 10 ^ length (take k ds)) (10 ^ length es) (kept_and_rounded ds k)) split there)
  | inr past ↦
      let zero_digit : digit_or_zero ds k ≡ 0 = ap (λ b. b - 48) (get_or_past ds k 48 past) in
      let same : kept_and_rounded ds k ≡ number ds * 10 ^ (k - length ds) = omega (arith, kept_past ds k past, carry-low (digit_or_zero ds k) (omega (arith, zero_digit))) in
      let back : k - length ds + length ds ≡ k = omega arith in
      let power : 10 ^ k ≡ 10 ^ (k - length ds) * 10 ^ length ds = ap (λ n. 10 ^ n) (sym back) ∙ pow-add 10 (k - length ds) (length ds) in
      let whole : kept_and_rounded ds k * 10 ^ length ds ≡ number ds * 10 ^ k = ap (λ m. m * 10 ^ length ds) same ∙ omega (arith, ap (λ p. number ds * p) power) in
      subst (λ a. RoundsHalfUp a (10 ^ length ds) (kept_and_rounded ds k)) whole (rounds_whole (kept_and_rounded ds k) (10 ^ length ds) (one-le-pow (length ds) 10 (lit< tt)))
]

-- the digit at a place of the first run of digits is the one at that place of both runs in a row
pub digit_in_first : (xs ys : List ℕ) (i : ℕ) → i < length xs → get_or xs i 0 - 48 ≡ digit_or_zero (xs ++ ys) i
digit_in_first xs ys i h = ap (λ b. b - 48) (get_or_default xs i 0 48 h ∙ sym (get_or-append xs ys 48 i h))

-- the digit of the second run at place i less the length of the first is the one at place i of both runs in a row
pub digit_in_second : (xs ys : List ℕ) (i : ℕ) → length xs ≤ i → i - length xs < length ys → get_or ys (i - length xs) 0 - 48 ≡ digit_or_zero (xs ++ ys) i
digit_in_second xs ys i h h' = ap (λ b. b - 48) (get_or_default ys (i - length xs) 0 48 h' ∙ sym (get_or-append_right xs ys i 48 h))

-- if place i is after both runs in a row, their digit there is 0
pub digit_after_both : (xs ys : List ℕ) (i : ℕ) → length xs ≤ i → length ys ≤ i - length xs → 0 ≡ digit_or_zero (xs ++ ys) i
digit_after_both xs ys i h h' = ap (λ b. b - 48) (sym (get_or_past ys (i - length xs) 48 h') ∙ sym (get_or-append_right xs ys i 48 h))

-- the element of digits at a place is at least '0'
pub digit_at_least_48 : (ds : List ℕ) (i : ℕ) → AreDigits ds → i < length ds → 48 ≤ get_or ds i 0
digit_at_least_48 ds i h lt = (every_at IsDigit ds i 0 lt h).0

-- if i is the count of the digits or more, `kept_and_rounded` is the number of all digits, with a zero after it for each that
-- is missing: nothing is rounded in
pub kept_and_rounded_past : (ds : List ℕ) (i : ℕ) → length ds ≤ i → kept_and_rounded ds i ≡ kept ds (length ds) * 10 ^ (i - length ds)
kept_and_rounded_past ds i h =
    let none : carry (digit_or_zero ds i) ≡ 0 = carry-low (digit_or_zero ds i) (omega (arith, get_or_past ds i 48 h)) in
    let all : kept ds (length ds) ≡ number ds = kept_within ds (length ds) (omega arith) ∙ ap number (take_all (length ds) ds (omega arith)) in
    let past : kept ds i ≡ number ds * 10 ^ (i - length ds) = kept_past ds i h in
    omega (arith, ap (λ n. n * 10 ^ (i - length ds)) all)

-- if n is at least `cap`, and p is above 0, n * p, cut off at `cap`, stays the same when n itself is cut off first
min_mul_at : (cap n p : ℕ) → 0 < p → cap ≤ n → min cap (min cap n * p) ≡ min cap (n * p)
min_mul_at cap n p some at =
    let left : cap * 1 ≤ cap * p = mul-le-mul_left {m = 1} {n = p} cap some in
    let right : cap * p ≤ n * p = mul-le-mul_right {m = cap} {n = n} p at in
    let factor : min cap n * p ≡ cap * p = ap (λ x. x * p) (let e : min cap n ≡ cap = omega arith in e) in
    omega arith

-- if p is above 0, n * p, cut off at `cap`, stays the same when n itself is cut off first
pub min_mul : (cap n p : ℕ) → 0 < p → min cap (min cap n * p) ≡ min cap (n * p)
min_mul cap n p some = elim (cases_lt n cap) [
  | inl below ↦ ap (λ x. min cap (x * p)) (let e : min cap n ≡ n = omega arith in e)
  | inr at ↦ min_mul_at cap n p some at
]

-- if 10^top is at least `cap`: n * 10^z, cut off at `cap`, is the same with at most `top` zeros
pub min_pow : (cap n top z : ℕ) → cap ≤ 10 ^ top → min cap (n * 10 ^ min z top) ≡ min cap (n * 10 ^ z)
min_pow cap zero top z large = omega arith
min_pow cap (suc n) top z large = elim (cases_lt top z) [
  | inl past ↦
      let up : 10 ^ top ≤ 10 ^ z = ten_pow_le top z (omega (arith, past)) in
      let same : 10 ^ min z top ≡ 10 ^ top = ap (λ e. 10 ^ e) (let e : min z top ≡ top = omega (arith, past) in e) in
      let low : 1 * 10 ^ top ≤ suc n * 10 ^ top = mul-le-mul_right {m = 1} {n = suc n} (10 ^ top) (omega arith) in
      let high : 1 * 10 ^ z ≤ suc n * 10 ^ z = mul-le-mul_right {m = 1} {n = suc n} (10 ^ z) (omega arith) in
      omega (arith, large, up, low, high, ap (λ x. suc n * x) same)
  | inr within ↦ ap (λ e. min cap (suc n * 10 ^ e)) (let e : min z top ≡ z = omega (arith, within) in e)
]

-- if i is below the length of ds, the number of the first i + 1 digits is ten times that of the first i, plus the digit at
-- place i
pub number-take_more : (ds : List ℕ) (i : ℕ) → i < length ds → number (take (i + 1) ds) ≡ number (take i ds) * 10 + (get_or ds i 0 - 48)
number-take_more ds i inside =
    let pushed : take (i + 1) ds ≡ take i ds ++ (get_or ds i 0 ∷ []) = rw add-one (take-suc ds i 0 inside) in
    omega (arith, ap number pushed, number-append (take i ds) (get_or ds i 0 ∷ []))

-- a step of reading digits after a number `front`: where `value` is the number of `front` and the first i digits, and `more` is
-- ten times that plus the next digit, `more` is the number of `front` and the first i + 1
pub followed_more : (front value more : ℕ) (ds : List ℕ) (i : ℕ) → i < length ds → value ≡ front * 10 ^ i + number (take i ds)
    → more ≡ value * 10 + (get_or ds i 0 - 48) → more ≡ front * 10 ^ (i + 1) + number (take (i + 1) ds)
followed_more front value more ds i inside e f =
    let power : 10 ^ (i + 1) ≡ 10 ^ i * 10 = rw add-one (pow-suc 10 i) in
    omega (arith, e, f, number-take_more ds i inside, ap (λ p. front * p) power)

-- if `front` leaves room within 10^18 for all of the digits ds, and the first i of them, but not all, were read after it, the
-- number of `front` and these is below 10^18
pub followed_small : (front value : ℕ) (ds : List ℕ) (i : ℕ) → AreDigits ds → i < length ds → value ≡ front * 10 ^ i + number (take i ds)
    → (front + 1) * 10 ^ length ds ≤ 10 ^ 18 → value < 10 ^ 18
followed_small front value ds i digits inside e room =
    let small : number (take i ds) < 10 ^ length (take i ds) = number-lt (take i ds) (every_take IsDigit ds i digits) in
    let size : length (take i ds) ≡ i = length-take-le i ds (omega arith) in
    let most : 10 ^ i ≤ 10 ^ length ds = ten_pow_le i (length ds) (omega arith) in
    let all : (front + 1) * 10 ^ i ≤ (front + 1) * 10 ^ length ds = mul-le-mul_left {m = 10 ^ i} {n = 10 ^ length ds} (front + 1) most in
    omega (arith, e, small, ap (λ k. 10 ^ k) size, all, room)

-- if the digits ws and fs are at most 18 together, the number of ws leaves room within 10^18 for fs after it: that number plus
-- 1, times ten for each digit of fs, is at most 10^18
pub digits_leave_room : (ws fs : List ℕ) → AreDigits ws → length ws + length fs ≤ 18 → (number ws + 1) * 10 ^ length fs ≤ 10 ^ 18
digits_leave_room ws fs digits few =
    let most : (number ws + 1) * 10 ^ length fs ≤ 10 ^ length ws * 10 ^ length fs =
    mul-le-mul_right {m = number ws + 1} {n = 10 ^ length ws} (10 ^ length fs) (let n = number-lt ws digits in omega arith) in
    omega (arith, most, pow-add 10 (length ws) (length fs), ten_pow_le (length ws + length fs) 18 few)
