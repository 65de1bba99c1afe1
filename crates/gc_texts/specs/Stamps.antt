-- Moments as text: UTC by the Gregorian calendar, in the form of ISO 8601; that a stamp has milliseconds is this project's own.
use Rattle.gc_texts.specs.Common.{decimal, is_leap, month_days, DateTime}
use Rattle.std.specs.Prelude.{ℕ, zero, suc, ◌+◌, ◌/◌, ◌%◌, nat_lt, List, [], ◌∷◌, ◌++◌, if◌then◌else◌, codes, min, pos}
use Rattle.gc_texts.specs.declared.stamp.Date.{Date}

-- how many days a year has
abbrev pub year_days : ℕ → ℕ
year_days year = if is_leap year then 366 else 365

-- the day after a day
abbrev pub next_day : Date → Date
next_day d =
    if nat_lt d.day (month_days d.year d.month) then record { year = d.year; month = d.month; day = d.day + 1 }
    else (if nat_lt d.month 12 then record { year = d.year; month = d.month + 1; day = 1 } else record { year = d.year + 1; month = 1; day = 1 })

-- the date this many days after a date
unfoldable pub days_after : ℕ → Date → Date
days_after zero d = d
days_after (suc n) d = days_after n (next_day d)

-- the date this many days after 1 January 1970
abbrev pub date_of : ℕ → Date
date_of days = days_after days (record { year = 1970; month = 1; day = 1 })

-- a number below 100, in two ASCII digits
abbrev pub two_digits : ℕ → List ℕ
two_digits n = (48 + n / 10) ∷ (48 + n % 10) ∷ []

-- a number below 1000, in three ASCII digits
abbrev pub three_digits : ℕ → List ℕ
three_digits n = (48 + n / 100) ∷ two_digits (n % 100)

-- a date as text, as 2026-11-22
abbrev pub date_text : Date → List ℕ
date_text d = decimal d.year ++ codes "-" ++ two_digits d.month ++ codes "-" ++ two_digits d.day

-- the text of a time of day with these hours, minutes, seconds and milliseconds, as 23:08:27.123
abbrev pub clock_text : (hours minutes seconds millis : ℕ) → List ℕ
clock_text hours minutes seconds millis =
    two_digits hours ++ codes ":" ++ two_digits minutes ++ codes ":" ++ two_digits seconds ++ codes "." ++ three_digits millis

-- the whole hours since midnight, by the milliseconds since then
abbrev pub hours_at : ℕ → ℕ
hours_at millis = millis / 3_600_000

-- the whole minutes of the hour, by the milliseconds since midnight
abbrev pub minutes_at : ℕ → ℕ
minutes_at millis = millis / 60_000 % 60

-- the whole seconds of the minute, by the milliseconds since midnight
abbrev pub seconds_at : ℕ → ℕ
seconds_at millis = millis / 1_000 % 60

-- the text of the time of day that is `millis` milliseconds after midnight
abbrev pub time_text : ℕ → List ℕ
time_text millis = clock_text (hours_at millis) (minutes_at millis) (seconds_at millis) (millis % 1_000)

-- the date at the moment this many milliseconds after the beginning of 1970
abbrev pub date_at : ℕ → Date
date_at utc = date_of (utc / 86_400_000)

-- the milliseconds from midnight to the moment this many milliseconds after the beginning of 1970
abbrev pub since_midnight : ℕ → ℕ
since_midnight utc = utc % 86_400_000

-- the moment this many milliseconds after the beginning of 1970, as 2026-11-22T23:08:27.123Z
abbrev pub stamp_text : ℕ → List ℕ
stamp_text utc = date_text (date_at utc) ++ codes "T" ++ time_text (since_midnight utc) ++ codes "Z"

-- the moment this many milliseconds after the beginning of 1970, cut to seconds, as a date and a time of day; the years from
-- 32767 on are all given as 32767
abbrev pub date_time : ℕ → DateTime
date_time utc =
    record {
      year = pos (min (date_at utc).year 32767);
      month = (date_at utc).month;
      day = (date_at utc).day;
      hour = hours_at (since_midnight utc);
      minute = minutes_at (since_midnight utc);
      second = seconds_at (since_midnight utc);
    }
