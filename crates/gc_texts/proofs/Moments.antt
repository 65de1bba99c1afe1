-- A stamp's numbers, from its milliseconds since 1 January 1970. `more` is the milliseconds beyond whole seconds.
use Rattle.gc_texts.proofs.Common.{◌≡◌, ℕ, ◌+◌, ◌*◌, ◌/◌, ◌%◌, ◌<◌, List, [], ◌∷◌, ◌++◌, refl, ap, ◌∙◌, arith, div-add-mod, next_day, days_after, date_of, two_digits, three_digits, date_text, clock_text, time_text, stamp_text}
use Rattle.std.specs.Prelude.{codes}
use Rattle.gc_texts.specs.Moments.{millis_of, digit, StampsAreMoments}
use Rattle.gc_texts.proofs.Dates.{days_sum}

-- the number of `a` tens and `b` ones is written as the digit of a and the digit of b
two_digits_written : (a b : ℕ) → b < 10 → two_digits (a * 10 + b) ≡ digit a ∷ digit b ∷ []
two_digits_written a b h =
    let n = a * 10 + b in
    let first : n / 10 ≡ a = omega (arith, h, div-add-mod n 10) in
    let second : n % 10 ≡ b = omega (arith, h, div-add-mod n 10) in
    ap (λ x. digit x ∷ digit (n % 10) ∷ []) first ∙ ap (λ x. digit a ∷ digit x ∷ []) second

-- the number of `a` hundreds, `b` tens and `c` ones is written as the digits of a, b and c
three_digits_written : (a b c : ℕ) → b < 10 → c < 10 → three_digits (a * 100 + b * 10 + c) ≡ digit a ∷ digit b ∷ digit c ∷ []
three_digits_written a b c h k =
    let n = a * 100 + b * 10 + c in
    let first : n / 100 ≡ a = omega (arith, h, k, div-add-mod n 100) in
    let rest : n % 100 ≡ b * 10 + c = omega (arith, h, k, div-add-mod n 100) in
    ap (λ x. digit x ∷ two_digits (n % 100)) first ∙ ap (λ x. digit a ∷ two_digits x) rest ∙ ap (λ xs. digit a ∷ xs) (two_digits_written b c k)

-- the text of a time of day, given in milliseconds, is its hours, minutes, seconds and milliseconds, as `clock_text` writes them
time_as_clock_text : (hours minutes seconds more : ℕ) → minutes < 60 → seconds < 60 → more < 1000
    → time_text (hours * 3600000 + minutes * 60000 + seconds * 1000 + more) ≡ clock_text hours minutes seconds more
time_as_clock_text hours minutes seconds more m s k =
    let n = hours * 3600000 + minutes * 60000 + seconds * 1000 + more in
    let a : n / 3600000 ≡ hours = omega (arith, m, s, k, div-add-mod n 3600000) in
    let b1 : n / 60000 ≡ hours * 60 + minutes = omega (arith, s, k, div-add-mod n 60000) in
    let b2 : (hours * 60 + minutes) % 60 ≡ minutes = omega (arith, m, div-add-mod (hours * 60 + minutes) 60) in
    let c1 : n / 1000 ≡ (hours * 60 + minutes) * 60 + seconds = omega (arith, k, div-add-mod n 1000) in
    let c2 : ((hours * 60 + minutes) * 60 + seconds) % 60 ≡ seconds = omega (arith, s, div-add-mod ((hours * 60 + minutes) * 60 + seconds) 60) in
    let d : n % 1000 ≡ more = omega (arith, k, div-add-mod n 1000) in
    ap (λ x. clock_text x (n / 60000 % 60) (n / 1000 % 60) (n % 1000)) a
    ∙ ap (λ x. clock_text hours x (n / 1000 % 60) (n % 1000)) (ap (λ x. x % 60) b1 ∙ b2)
    ∙ ap (λ x. clock_text hours minutes x (n % 1000)) (ap (λ x. x % 60) c1 ∙ c2)
    ∙ ap (λ x. clock_text hours minutes seconds x) d

-- a stamp with this text of its date and this text of its time
abbrev stamp_of : (date time : List ℕ) → List ℕ
stamp_of date time = date ++ codes "T" ++ time ++ codes "Z"

-- the stamp of a moment is its date, and its hour, minute, second and millisecond in two, two, two and three digits
stamp_of_moment : (days hours minutes seconds more : ℕ) → hours < 24 → minutes < 60 → seconds < 60 → more < 1000
    → stamp_text (millis_of days hours minutes seconds more)
    ≡ stamp_of (date_text (date_of days)) (clock_text hours minutes seconds more)
stamp_of_moment days hours minutes seconds more h m s k =
    let n = millis_of days hours minutes seconds more in
    let day : n / 86400000 ≡ days = omega (arith, h, m, s, k, div-add-mod n 86400000) in
    let rest : n % 86400000 ≡ hours * 3600000 + minutes * 60000 + seconds * 1000 + more = omega (arith, h, m, s, k, div-add-mod n 86400000) in
    ap (λ x. stamp_of (date_text (date_of x)) (time_text (n % 86400000))) day
    ∙ ap (λ x. stamp_of (date_text (date_of days)) x) (ap time_text rest ∙ time_as_clock_text hours minutes seconds more m s k)

-- the date of day `days + 1` is the day after the date of day `days`
next_date : (days : ℕ) → date_of (days + 1) ≡ next_day (date_of days)
unfolding days_after
next_date days = days_sum days 1 (record { year = 1970; month = 1; day = 1 })

-- the date of day 0 is 1 January 1970
first_date : date_of 0 ≡ record { year = 1970; month = 1; day = 1 }
unfolding days_after
first_date = refl

-- the law: the text of a stamp gives its date, hour, minute, second and millisecond, each in digits of its value; the date of day
-- 0 is 1 January 1970, and that of each later day is the day after the date of the day before
pub stamps_give_moments : StampsAreMoments
stamps_give_moments = record { moment = stamp_of_moment; two = two_digits_written; three = three_digits_written; first = first_date; next = next_date }
