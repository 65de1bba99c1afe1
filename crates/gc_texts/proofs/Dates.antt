-- How days pass: within a month, to its end, and to the end of a year. `y`, `m`, `d` are a year, a month and a day of that month.
-- Where `d` is a date, `days` is counted from it, and `left` from the first of a month or a year, as the loops count down what is
-- left.
use Rattle.gc_texts.proofs.Common.{◌≡◌, ℕ, zero, suc, ◌+◌, ◌<◌, ◌≤◌, ◌-◌, ◌==◌, ◌||◌, Bool, true, false, if◌then◌else◌, inl, inr, refl, sym, ap, subst, ◌∙◌, arith, lt-ltb, le-ltb, cond-true, cond-false, cond_both, leb_tells, Date, is_leap, month_days, year_days, next_day, days_after}
use Rattle.std.specs.Prelude.{nat_lt}

-- how many days the first n months of a year have together
unfoldable pub days_of_months : (year n : ℕ) → ℕ
days_of_months year zero = 0
days_of_months year (suc n) = days_of_months year n + month_days year (n + 1)

-- day `d` of month `m` of year `y`
abbrev pub calendar_date : (y m d : ℕ) → Date
calendar_date y m d = record { year = y; month = m; day = d }

-- going on by a + b days from a date is going on by a days, and then by b days
pub days_sum : (a b : ℕ) (d : Date) → days_after (a + b) d ≡ days_after b (days_after a d)
unfolding days_after
days_sum zero b d = let e : 0 + b ≡ b = omega arith in rw e refl
days_sum (suc a) b d = let e : suc a + b ≡ suc (a + b) = omega arith in rw e (days_sum a b (next_day d))

-- the day after one that isn't its month's last is the next day of the same month
next_day_in_month : (y m d : ℕ) → d < month_days y m → next_day (calendar_date y m d) ≡ calendar_date y m (d + 1)
next_day_in_month y m d below = cond-true (nat_lt d (month_days y m)) _ _ (lt-ltb d (month_days y m) below)

-- where a month has at least d + k days, the date k days after its day d is its day d + k
pub days_within_month : (k y m d : ℕ) → d + k ≤ month_days y m → days_after k (calendar_date y m d) ≡ calendar_date y m (d + k)
unfolding days_after
days_within_month zero y m d le = let e : d ≡ d + 0 = omega arith in ap (calendar_date y m) e
days_within_month (suc k) y m d le =
    let e : d + 1 + k ≡ d + suc k = omega arith in
    ap (days_after k) (next_day_in_month y m d (omega (arith, le))) ∙ days_within_month k y m (d + 1) (omega (arith, le)) ∙ ap (calendar_date y m) e

-- the day after a month's last is the first of the next month, where the month isn't December
next_day_after_month : (y m d : ℕ) → d ≡ month_days y m → m < 12 → next_day (calendar_date y m d) ≡ calendar_date y (m + 1) 1
next_day_after_month y m d last below =
    cond-false (nat_lt d (month_days y m)) _ _ (le-ltb d (month_days y m) (omega (arith, last))) ∙ cond-true (nat_lt m 12) _ _ (lt-ltb m 12 below)

-- where day d is k days before its month's last day, and the month isn't December, k + 1 days after it is the first of the next
-- month
pub month_passes : (k y m d : ℕ) → d + k ≡ month_days y m → m < 12 → days_after (suc k) (calendar_date y m d) ≡ calendar_date y (m + 1) 1
unfolding days_after
month_passes zero y m d last below = next_day_after_month y m d (omega (arith, last)) below
month_passes (suc k) y m d last below =
    ap (days_after (suc k)) (next_day_in_month y m d (omega (arith, last))) ∙ month_passes k y m (d + 1) (omega (arith, last)) below

-- a month has at least one day
pub month_has_days : (y m : ℕ) → 0 < month_days y m
month_has_days y m =
    cond_both (m == 2) _ _ (λ n. 0 < n) (λ _. cond_both (is_leap y) 29 28 (λ n. 0 < n) (λ _. omega arith) (λ _. omega arith))
    (λ _. cond_both ((m == 4) || (m == 6) || (m == 9) || (m == 11)) 30 31 (λ n. 0 < n) (λ _. omega arith) (λ _. omega arith))

-- a whole month and `left` days after the first of a month other than December is `left` days after the first of the next month
pub whole_month : (y m left : ℕ) → m < 12 → days_after (month_days y m + left) (calendar_date y m 1) ≡ days_after left (calendar_date y (m + 1) 1)
whole_month y m left below =
    let some = month_has_days y m in
    let e : month_days y m ≡ suc (month_days y m - 1) = omega (arith, some) in
    ap (λ n. days_after (n + left) (calendar_date y m 1)) e ∙ days_sum (suc (month_days y m - 1)) left (calendar_date y m 1)
    ∙ ap (days_after left) (month_passes (month_days y m - 1) y m 1 (omega (arith, some)) below)

-- the whole first k months and `left` days after 1 January, where k is below 12, is `left` days after the first of month k + 1
pub whole_months : (k y left : ℕ) → k < 12 → days_after (days_of_months y k + left) (calendar_date y 1 1) ≡ days_after left (calendar_date y (k + 1) 1)
unfolding days_of_months
whole_months zero y left below = let e : 0 + left ≡ left = omega arith in rw e refl
whole_months (suc k) y left below =
    let e : days_of_months y k + month_days y (k + 1) + left ≡ days_of_months y k + (month_days y (k + 1) + left) = omega arith in
    let next : k + 1 + 1 ≡ suc k + 1 = omega arith in
    ap (λ n. days_after n (calendar_date y 1 1)) e ∙ whole_months k y (month_days y (k + 1) + left) (omega (arith, below))
    ∙ whole_month y (k + 1) left (omega (arith, below)) ∙ ap (λ m. days_after left (calendar_date y m 1)) next

-- the days of the twelve months add up to 366 in a leap year, and to 365 in another
sum_of_months : (leap : Bool) → 31 + (if leap then 29 else 28) + 31 + 30 + 31 + 30 + 31 + 31 + 30 + 31 + 30 + 31 ≡ (if leap then 366 else 365)
sum_of_months true = refl
sum_of_months false = refl

-- the twelve months have the days of the year
pub months_of_year : (y : ℕ) → days_of_months y 12 ≡ year_days y
unfolding days_of_months
months_of_year y = sum_of_months (is_leap y)

-- 31 days after 1 December is 1 January of the next year
december_passes : (y : ℕ) → days_after 31 (calendar_date y 12 1) ≡ calendar_date (y + 1) 1 1
unfolding days_after
december_passes y = refl

-- a whole year and `left` days after 1 January is `left` days after 1 January of the next year
pub whole_year : (y left : ℕ) → days_after (year_days y + left) (calendar_date y 1 1) ≡ days_after left (calendar_date (y + 1) 1 1)
unfolding days_of_months
whole_year y left =
    let e : days_of_months y 11 + 31 + left ≡ days_of_months y 11 + (31 + left) = omega arith in
    ap (λ n. days_after (n + left) (calendar_date y 1 1)) (sym (months_of_year y)) ∙ ap (λ n. days_after n (calendar_date y 1 1)) e
    ∙ whole_months 11 y (31 + left) (omega arith) ∙ days_sum 31 left (calendar_date y 12 1) ∙ ap (days_after left) (december_passes y)

-- where m is at least 1, the first m months have the days of the first m - 1, and those of month m
pub one_month_more : (y m : ℕ) → 1 ≤ m → days_of_months y m ≡ days_of_months y (m - 1) + month_days y m
unfolding days_of_months
one_month_more y zero le = absurd (omega (arith, le))
one_month_more y (suc k) le =
    let e : suc k - 1 ≡ k = omega arith in
    let n : k + 1 ≡ suc k = omega arith in
    rw (e, n) refl

-- a day that lies within the year isn't 31 days or more after 1 December
not_december : (y left : ℕ) → days_of_months y 11 + left < year_days y → 31 ≤ left → ⊥
not_december y left part whole = omega (arith, months_of_year y, one_month_more y 12 (omega arith), part, whole)

-- where a day of the year is `left` days after the first of month `m`, and `left` is all days of month `m` or more, that month
-- isn't December
pub before_december : (y m left : ℕ) → m ≤ 12 → days_of_months y (m - 1) + left < year_days y → month_days y m ≤ left → m < 12
before_december y m left high part whole =
    elim (leb_tells 12 m) as (λ _. m < 12) [
      | inl is ↦
          let last : m ≡ 12 = omega (arith, is.1, high) in
          absurd (not_december y left (subst (λ n. days_of_months y (n - 1) + left < year_days y) last part) (subst (λ n. month_days y n ≤ left) last whole))
      | inr is ↦ is.1
    ]

-- a date that is `left` days after the first of month `m`, which has no more days than that and isn't December, is `left` minus
-- the month's days after the first of the next month
pub from_next_month : (y m days left : ℕ) (d : Date) → m < 12 → month_days y m ≤ left → days_after days d ≡ days_after left (calendar_date y m 1)
    → days_after days d ≡ days_after (left - month_days y m) (calendar_date y (m + 1) 1)
from_next_month y m days left d below whole so =
    let e : left ≡ month_days y m + (left - month_days y m) = omega (arith, whole) in
    so ∙ ap (λ n. days_after n (calendar_date y m 1)) e ∙ whole_month y m (left - month_days y m) below

-- a day that lies within the year, `left` days after the first of month `m` and not in that month, lies within the year, too,
-- when it is counted from the first of the next month
pub within_year_from_next_month : (y m left : ℕ) → 1 ≤ m → month_days y m ≤ left → days_of_months y (m - 1) + left < year_days y
    → days_of_months y (m + 1 - 1) + (left - month_days y m) < year_days y
within_year_from_next_month y m left low whole part =
    let e : m + 1 - 1 ≡ m = omega arith in
    rw e (omega (arith, one_month_more y m low, whole, part))

-- a date that is `left` days after 1 January, where `left` is the year's days or more, is `left` minus the year's days after 1
-- January of the next year
pub from_next_year : (y days left : ℕ) (d : Date) → year_days y ≤ left → days_after days d ≡ days_after left (calendar_date y 1 1)
    → days_after days d ≡ days_after (left - year_days y) (calendar_date (y + 1) 1 1)
from_next_year y days left d whole so =
    let e : left ≡ year_days y + (left - year_days y) = omega (arith, whole) in
    so ∙ ap (λ n. days_after n (calendar_date y 1 1)) e ∙ whole_year y (left - year_days y)

-- a month has at most 31 days
pub at_most_31_days : (y m : ℕ) → month_days y m ≤ 31
at_most_31_days y m =
    cond_both (m == 2) _ _ (λ n. n ≤ 31) (λ _. cond_both (is_leap y) 29 28 (λ n. n ≤ 31) (λ _. omega arith) (λ _. omega arith))
    (λ _. cond_both ((m == 4) || (m == 6) || (m == 9) || (m == 11)) 30 31 (λ n. n ≤ 31) (λ _. omega arith) (λ _. omega arith))

-- a day that lies within the year, `left` days after 1 January, lies within it also if the days of the 1 - 1 months before
-- month 1 are added, of which there are none
pub within_year_from_january : (y left : ℕ) → left < year_days y → days_of_months y (1 - 1) + left < year_days y
unfolding days_of_months
within_year_from_january y left part = omega (arith, part)

-- a date that is `left` days after the first of a month, fewer than the month has, is day left + 1 of that month
pub day_in_month : (y m days left : ℕ) (d : Date) → left < month_days y m → days_after days d ≡ days_after left (calendar_date y m 1)
    → calendar_date y m (left + 1) ≡ days_after days d
day_in_month y m days left d part so =
    let e : 1 + left ≡ left + 1 = omega arith in
    sym (so ∙ days_within_month left y m 1 (omega (arith, part)) ∙ ap (calendar_date y m) e)

-- a year has at least one day
pub year_has_days : (y : ℕ) → 0 < year_days y
year_has_days y = cond_both (is_leap y) 366 365 (λ n. 0 < n) (λ _. omega arith) (λ _. omega arith)
