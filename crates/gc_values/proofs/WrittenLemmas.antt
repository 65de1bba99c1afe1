-- How the digits of a number are written, from the last on, and how many there are.
use Rattle.gc_values.proofs.Common.{◌≡◌, ℕ, zero, suc, ◌+◌, ◌-◌, ◌*◌, ◌/◌, ◌%◌, ◌^◌, ◌<◌, ◌≤◌, List, [], ◌∷◌, ◌++◌, length, map, refl, sym, ap, ◌∙◌, arith, lit<, lit≤, cond, eqb, length-append, append_assoc, pow-suc, div-div-eq-div-mul, div-one, mul_comm, mod-eq-sub-div-mul, length-map, map-append, append-nil, digits_of, digits_of_step, length-digits_of-le, ne_eqb, cond_both, digits_text, last_digits, places_text}
use Rattle.std.proofs.Math.Arith.{mod-mul}
use Rattle.gc_values.proofs.Powers.{ten_pow_pos}

-- the digits of a number above 0 are those of the number without its last digit, and then its last digit
pub digits_text_step : (x : ℕ) → 0 < x → digits_text x ≡ digits_text (x / 10) ++ (48 + x % 10) ∷ []
digits_text_step x some = ap (map (λ d. 48 + d)) (digits_of_step 10 x (lit≤ tt) some) ∙ map-append (λ d. 48 + d) (digits_of 10 (x / 10)) (x % 10 ∷ [])

-- a number below 10^k has at most k digits
pub length-digits_text : (x k : ℕ) → x < 10 ^ k → length (digits_text x) ≤ k
length-digits_text x k h = omega (arith, length-map (digits_of 10 x) (λ d. 48 + d), length-digits_of-le 10 k x (lit≤ tt) h)

-- `last_digits k n` has k digits
pub length-last_digits : (k n : ℕ) → length (last_digits k n) ≡ k
length-last_digits zero n = refl
length-last_digits (suc k) n = omega (arith, length-append (last_digits k (n / 10)) ((48 + n % 10) ∷ []), length-last_digits k (n / 10))

-- the remainder of n by 10^(k + 1) is ten times that of n / 10 by 10^k, plus the last digit of n
mod_pow_suc : (n k : ℕ) → n % 10 ^ suc k ≡ n / 10 % 10 ^ k * 10 + n % 10
mod_pow_suc n k = ap (λ p. n % p) (pow-suc 10 k) ∙ mod-mul n {m = 10 ^ k} {c = 10} (ten_pow_pos k) (lit< tt)

-- the remainder of n by 10^(k + 1) ends in the last digit of n
pub mod_pow_last : (n k : ℕ) → n % 10 ^ suc k % 10 ≡ n % 10
mod_pow_last n k = omega (arith, mod_pow_suc n k)

-- the remainder of n by 10^(k + 1), without its last digit, is the remainder of n / 10 by 10^k
mod_pow_others : (n k : ℕ) → n % 10 ^ suc k / 10 ≡ n / 10 % 10 ^ k
mod_pow_others n k = omega (arith, mod_pow_suc n k)

-- n divided by ten, and then by 10^k, is n divided by 10^(k + 1)
div_ten_pow : (n k : ℕ) → n / 10 / 10 ^ k ≡ n / 10 ^ suc k
div_ten_pow n k = div-div-eq-div-mul n 10 (10 ^ k) ∙ ap (λ p. n / p) (mul_comm 10 (10 ^ k) ∙ sym (pow-suc 10 k))

-- the last j + k digits of n are the last j of n / 10^k, and then the last k of n % 10^k
pub last_digits-split : (j k n : ℕ) → last_digits (j + k) n ≡ last_digits j (n / 10 ^ k) ++ last_digits k (n % 10 ^ k)
last_digits-split j zero n =
    let none : j + 0 ≡ j = omega arith in
    let one : n / 10 ^ 0 ≡ n = div-one n in
    ap (λ c. last_digits c n) none ∙ ap (last_digits j) (sym one) ∙ sym (append-nil (last_digits j (n / 10 ^ 0)))
last_digits-split j (suc k) n =
    let more : j + suc k ≡ suc (j + k) = omega arith in
    let whole : last_digits (j + k) (n / 10) ≡ last_digits j (n / 10 ^ suc k) ++ last_digits k (n % 10 ^ suc k / 10) =
    last_digits-split j k (n / 10) ∙ ap (λ m. last_digits j m ++ last_digits k (n / 10 % 10 ^ k)) (div_ten_pow n k)
    ∙ ap (λ m. last_digits j (n / 10 ^ suc k) ++ last_digits k m) (sym (mod_pow_others n k)) in
    ap (λ c. last_digits c n) more ∙ ap (λ ds. ds ++ (48 + n % 10) ∷ []) whole
    ∙ append_assoc (last_digits j (n / 10 ^ suc k)) (last_digits k (n % 10 ^ suc k / 10)) ((48 + n % 10) ∷ [])
    ∙ ap (λ d. last_digits j (n / 10 ^ suc k) ++ (last_digits k (n % 10 ^ suc k / 10) ++ (48 + d) ∷ [])) (sym (mod_pow_last n k))

-- if k is at most `count`, the last k digits of n are put in front of `old`, and then the `count - k` digits before them in
-- front of these, what comes out is the last `count` digits of n and then `old`
pub last_digits_put_in_two_runs : (old back out : List ℕ) (n count k : ℕ) → k ≤ count → back ≡ last_digits k (n - n / 10 ^ k * 10 ^ k) ++ old
    → out ≡ last_digits (count - k) (n / 10 ^ k) ++ back → out ≡ last_digits count n ++ old
last_digits_put_in_two_runs old back out n count k within e f =
    let back_is : count - k + k ≡ count = omega arith in
    let rest : n - n / 10 ^ k * 10 ^ k ≡ n % 10 ^ k = sym (mod-eq-sub-div-mul n (10 ^ k)) in
    f ∙ ap (λ xs. last_digits (count - k) (n / 10 ^ k) ++ xs) e
    ∙ sym (append_assoc (last_digits (count - k) (n / 10 ^ k)) (last_digits k (n - n / 10 ^ k * 10 ^ k)) old)
    ∙ ap (λ m. (last_digits (count - k) (n / 10 ^ k) ++ last_digits k m) ++ old) rest
    ∙ ap (λ ds. ds ++ old) (sym (last_digits-split (count - k) k n)) ∙ ap (λ c. last_digits c n ++ old) back_is

-- the last k digits of a number are those of its remainder by 10^k
pub last_digits-mod : (k n : ℕ) → last_digits k (n % 10 ^ k) ≡ last_digits k n
last_digits-mod k n = let none : 0 + k ≡ k = omega arith in sym (last_digits-split 0 k n) ∙ ap (λ c. last_digits c n) none

-- the last k + 1 digits of a number are the digit before the last k, and then the last k
pub last_digits-front : (k n : ℕ) → last_digits (k + 1) n ≡ (48 + n / 10 ^ k % 10) ∷ last_digits k n
last_digits-front k n =
    let more : k + 1 ≡ 1 + k = omega arith in
    ap (λ c. last_digits c n) more ∙ last_digits-split 1 k n ∙ ap (λ ds. (48 + n / 10 ^ k % 10) ∷ ds) (last_digits-mod k n)

-- n divided by 10^k, and then by ten, is n divided by 10^(k + 1)
pub div_pow_ten : (n k : ℕ) → n / 10 ^ k / 10 ≡ n / 10 ^ (k + 1)
div_pow_ten n k =
    let power : 10 ^ (k + 1) ≡ 10 ^ k * 10 = ap (λ e. 10 ^ e) (let e : k + 1 ≡ suc k = omega arith in e) ∙ pow-suc 10 k in
    div-div-eq-div-mul n (10 ^ k) 10 ∙ ap (λ x. n / x) (sym power)

-- a step of putting the last digits of n before `old`: where `self` is the last k digits and then `old`, and the digit before
-- these k is put in front of `self`, `new` is the last k + 1 digits and then `old`
pub last_digits_put_step : (old self new : List ℕ) (n k rest : ℕ) → self ≡ last_digits k n ++ old → rest ≡ n / 10 ^ k → new ≡ (48 + rest % 10) ∷ self
    → new ≡ last_digits (k + 1) n ++ old
last_digits_put_step old self new n k rest e r f =
    f ∙ ap (λ x. (48 + x % 10) ∷ self) r ∙ ap (λ xs. (48 + n / 10 ^ k % 10) ∷ xs) e ∙ ap (λ ds. ds ++ old) (sym (last_digits-front k n))

-- a step of putting digits in front, from the last on, where those of `rest`, which is above 0, are left to be put: if these and
-- then `self` are `all`, and the last of them is put in front of `self`, those of rest / 10 and then `new` are `all`
pub digits_put_step : (all self new : List ℕ) (rest : ℕ) → 0 < rest → digits_text rest ++ self ≡ all → new ≡ (48 + rest % 10) ∷ self
    → digits_text (rest / 10) ++ new ≡ all
digits_put_step all self new rest some e f =
    ap (λ xs. digits_text (rest / 10) ++ xs) f ∙ sym (append_assoc (digits_text (rest / 10)) ((48 + rest % 10) ∷ []) self) ∙ ap (λ ds. ds ++ self) (sym (digits_text_step rest some)) ∙ e

-- while digits of a number below 10^14 are left, there is room for one more in 40 bytes, of which 14 were free before the number
pub digits_left_have_room : (old self : List ℕ) (n rest : ℕ) → digits_text rest ++ self ≡ digits_text n ++ old → n < 10 ^ 14 → 0 < rest
    → length old + 14 ≤ 40 → length self < 40
digits_left_have_room old self n rest e small some room =
    omega (
      arith,
      ap length e,
      length-append (digits_text rest) self,
      length-append (digits_text n) old,
      length-digits_text n 14 small,
      ap length
          (digits_text_step rest some),
      length-append (digits_text (rest / 10)) ((48 + rest % 10) ∷ []),
    )

-- for s above 0, the last s digits of m are what is written after the point for m at s places
pub places_are_last_digits : (s m n : ℕ) (xs : List ℕ) → 0 < s → n ≡ m → xs ≡ last_digits s n ++ [] → xs ≡ places_text s (m % 10 ^ s)
places_are_last_digits s m n xs some e f =
    f ∙ append-nil (last_digits s n) ∙ ap (last_digits s) e ∙ sym (last_digits-mod s m)
    ∙ ap (λ b. cond b (48 ∷ []) (last_digits s (m % 10 ^ s))) (sym (ne_eqb s 0 (λ h. omega (arith, h, some))))

-- if there are at most 24 places, at most 24 digits follow the point
pub length-places_text : (s n : ℕ) → s ≤ 24 → length (places_text s n) ≤ 24
length-places_text s n few = cond_both (eqb s 0) (48 ∷ []) (last_digits s n) (λ ds. length ds ≤ 24) (λ _. lit≤ tt) (λ _. omega (arith, length-last_digits s n))

-- k digits put before an empty text make a text of k bytes
pub length-put : (k n : ℕ) (old new : List ℕ) → new ≡ last_digits k n ++ old → old ≡ [] → length new ≡ k
length-put k n old new e none = omega (arith, ap length e, length-append (last_digits k n) old, length-last_digits k n, ap length none)
