-- Years of the Gregorian calendar, for all crates that count days.
use Rattle.std.specs.Prelude.{ℕ, ◌%◌, ◌==◌, ◌&&◌, ◌||◌, Bool, not, if◌then◌else◌}

-- whether a year has a 29th of February: it is divisible by 4, and not by 100 unless it is divisible by 400
abbrev pub is_leap : ℕ → Bool
is_leap year = (year % 4 == 0) && (not (year % 100 == 0) || (year % 400 == 0))

-- how many days a month of a year has; months count from 1, and a number that is no month has 31
abbrev pub month_days : (year month : ℕ) → ℕ
month_days year month =
    if month == 2 then (if is_leap year then 29 else 28)
    else (if (month == 4) || (month == 6) || (month == 9) || (month == 11) then 30 else 31)
